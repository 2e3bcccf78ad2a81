-- An answer does not depend on how the bytes are cut into calls. Assumes nothing.
use mathlib.Core.Path.{◌≡◌, refl, sym, ap, ◌∙◌}
use mathlib.Core.Bool.{Bool, true, false, cond}
use mathlib.Core.List.{List, [], ◌∷◌, ◌++◌, append_assoc}
use Prim.Native.Nat.{ℕ, zero, suc, ◌+◌, ◌-◌, ◌≤◌}
use native.Mathlib.Omega.{arith}
use lib.Dec.{eqb}
use lib.ListN.{length, take, length-append}
use borrow.Author.Tests.{eqb-true}
use Rattle.form.specs.Table.{Form}
use Rattle.form.specs.Scan.{Found, well, part, bad, scan}
use Rattle.form.proofs.EncodingForms.{EncodingForm}
use Rattle.state.specs.Meaning.{starting, held, trail, low, high, Sense, invalid, valid, sense_of}
use Rattle.state.specs.declared.Record.{Record}
use Rattle.units.specs.Width.{Width}
use Rattle.advance.specs.Step.{Name, refused, continuation, incomplete, bad_sequence, null, unit, tell, Step, to, hold, convert, reads, come_out, step}
use Rattle.restart.specs.Runs.{Bits, width, reading, going_on, until_decided, total}
use Rattle.restart.specs.Packets.{later}
use Rattle.restart.proofs.States.{sense-state, sense-valid, part-hold, few, reads_on, reads-found}

-- ---- a state either holds bytes, perhaps none, or its answer is settled before the input

abbrev named : Step → Name
named x = x.answer.name

data Reader (F : Form) (b : Bits) (s : Record) : Type 0 where
  holds : (h : List ℕ) → sense_of F s ≡ valid (hold h) → Reader F b s
  settled : (x : Step) → (named x ≡ incomplete → ⊥) → ((i : List ℕ) → reading F b s i ≡ x) → Reader F b s

comes_out : (W : Width) (s : Record) (us : List ℕ) → named (come_out W s us) ≡ incomplete → ⊥
comes_out W s [] e = let z : ◌≡◌ {A = ℕ} 0 1 = cc in omega arith
comes_out W s (u ∷ us) e = let z : ◌≡◌ {A = ℕ} 0 1 = cc in omega arith

-- all that was held and came is a partial sequence, and is held now
record Waits (F : Form) (b : Bits) (s : Record) (h i : List ℕ) : Type 0 where
  parts : scan F (h ++ i) ≡ part
  after : sense_of F (reading F b s i).next ≡ valid (hold (h ++ i))

reads-name : (W : Width) (h i : List ℕ) (x : Found) → named (reads W h i x) ≡ incomplete → x ≡ part
reads-name W h i part n = refl
reads-name W h i (bad m) n = cc
reads-name W h i (well c m) n = go (eqb c 0) n
  where
    go : (t : Bool) → named (cond t (to (tell null 0 0 1 0) starting) (convert W c (m - length h))) ≡ incomplete → well c m ≡ part
    go true n = cc
    go false n = cc

module _ {F : Form} {n : ℕ} (E : EncodingForm F n) (room : n ≤ 15) where
  reader : (b : Bits) (s : Record) → Reader F b s
  unfolding step
  reader b s = go (sense_of F s) refl
    where
      out : (us : List ℕ) → ((i : List ℕ) → reading F b s i ≡ come_out (width b) s us) → Reader F b s
      out us f = settled (come_out (width b) s us) (comes_out (width b) s us) f

      go : (x : Sense) → sense_of F s ≡ x → Reader F b s
      go invalid e = out [] (λ i. rw e refl)
      go (valid starting) e = holds [] e
      go (valid (held [])) e = let v = sense-valid E s (held []) e in absurd (omega arith)
      go (valid (held (x ∷ h))) e = holds (x ∷ h) e
      go (valid (trail us)) e = out ((width b).due (trail us)) (λ i. rw e refl)
      go (valid (low u)) e = out ((width b).due (low u)) (λ i. rw e refl)
      go (valid (high u)) e = out [] (λ i. rw e refl)

  found-both : (b : Bits) (s : Record) (h i j : List ℕ) (x : Found) → sense_of F s ≡ valid (hold h) → scan F (h ++ i ++ j) ≡ x
      → reading F b s (i ++ j) ≡ reads (width b) h (i ++ j) x
  found-both b s h i j x e f = reads-found F b s h (i ++ j) x e (ap (scan F) (sym (append_assoc h i j)) ∙ f)

  pub stays : (b : Bits) (s : Record) (i j : List ℕ) → ((reading F b s i).answer.name ≡ incomplete → ⊥) → reading F b s (i ++ j) ≡ reading F b s i
  stays b s i j k = go (reader b s)
    where
      by : (h : List ℕ) → sense_of F s ≡ valid (hold h) → (x : Found) → scan F (h ++ i) ≡ x → reading F b s (i ++ j) ≡ reading F b s i
      by h e part f = absurd (k (ap named (reads-found F b s h i part e f)))
      by h e (well c m) f = found-both b s h i j (well c m) e (E.scans.well_stays (h ++ i) j c m f) ∙ sym (reads-found F b s h i (well c m) e f)
      by h e (bad m) f = found-both b s h i j (bad m) e (E.scans.bad_stays (h ++ i) j m f) ∙ sym (reads-found F b s h i (bad m) e f)

      go : Reader F b s → reading F b s (i ++ j) ≡ reading F b s i
      go (holds h e) = by h e (scan F (h ++ i)) refl
      go (settled x m f) = f (i ++ j) ∙ sym (f i)

  -- ---- an incomplete answer

  waits : (b : Bits) (s : Record) (h i : List ℕ) → sense_of F s ≡ valid (hold h) → (reading F b s i).answer.name ≡ incomplete → Waits F b s h i
  waits b s h i e k =
      let p = reads-name (width b) h i (scan F (h ++ i)) (sym (ap named (reads_on F b s h i e)) ∙ k) in
      let next = ap (λ (x : Step). sense_of F x.next) (reads-found F b s h i part e p) in
      record { parts = p; after = next ∙ sense-state E room (hold (h ++ i)) (part-hold E (h ++ i) p) }

  -- code 0 is one byte, so nothing was held before it
  pub null-first : (s t : List ℕ) (m : ℕ) → scan F s ≡ part → scan F (s ++ t) ≡ well 0 m → length s ≡ 0
  null-first [] t m p f = refl
  null-first (b ∷ s) t m p f = go m ((E.ascii _ 0 (omega arith)).0 ((E.scans.finds_well (b ∷ (s ++ t)) 0 m).0 f).0)
    where
      go : (m : ℕ) → take m (b ∷ (s ++ t)) ≡ 0 ∷ [] → length (b ∷ s) ≡ 0
      go zero e = cc
      go (suc m) e =
          let q : b ≡ 0 = cc in
          let d : scan F (0 ∷ s) ≡ well 0 1 = (E.scans.finds_well (0 ∷ s) 0 1).1 ((E.ascii (0 ∷ []) 0 (omega arith)).1 refl, omega arith) in
          let c : scan F (b ∷ s) ≡ well 0 1 = rw q d in
          cc

  -- the answer with i held, and the one with i in the input
  together : (W : Width) (h i j : List ℕ) (x : Found) → scan F (h ++ i) ≡ part → scan F (h ++ i ++ j) ≡ x
      → reads W (h ++ i) j x ≡ later (length i) (reads W h (i ++ j) x)
  together W h i j part p f = let l : length (i ++ j) - length i ≡ length j = omega (arith, length-append i j) in rw (l, append_assoc h i j) refl
  together W h i j (bad m) p f = let l : 0 - length i ≡ 0 = omega arith in rw (l, length-append h i) refl
  together W h i j (well c m) p f = go (eqb c 0) refl
    where
      go : (t : Bool) → eqb c 0 ≡ t → reads W (h ++ i) j (well c m) ≡ later (length i) (reads W h (i ++ j) (well c m))
      go true e =
          let z = null-first (h ++ i) j m p (f ∙ ap (λ (x : ℕ). well x m) (eqb-true c 0 e)) in
          let l : 1 - length i ≡ 1 = omega (arith, length-append h i) in
          rw (e, l) refl
      go false e = let l : m - length (h ++ i) ≡ m - length h - length i = omega (arith, length-append h i) in rw (e, l) refl

  pub goes_on : (b : Bits) (s : Record) (i j : List ℕ) → (reading F b s i).answer.name ≡ incomplete
      → reading F b (reading F b s i).next j ≡ later (length i) (reading F b s (i ++ j))
  goes_on b s i j k = go (reader b s)
    where
      go : Reader F b s → reading F b (reading F b s i).next j ≡ later (length i) (reading F b s (i ++ j))
      go (settled x m f) = absurd (m (sym (ap named (f i)) ∙ k))
      go (holds h e) =
          let w = waits b s h i e k in
          let x = scan F (h ++ i ++ j) in
          reads-found F b (reading F b s i).next (h ++ i) j x w.after refl
          ∙ together (width b) h i j x w.parts refl
          ∙ sym (ap (later (length i)) (found-both b s h i j x e refl))

  -- ---- calls until the sequence is decided

  -- after a call x whose answer has the name a
  decided-from : (is : List (List ℕ)) (b : Bits) (x : Step) (a : Name) (h : List ℕ) → named x ≡ a → (a ≡ incomplete → sense_of F x.next ≡ valid (hold h))
      → n ≤ length h + total is → named (going_on F b x a is) ≡ incomplete → ⊥
  decided-from [] b x a h e f l g = omega (arith, few E h (sense-valid E x.next (hold h) (f (sym e ∙ g))))
  decided-from (i ∷ is) b x incomplete h e f l g =
      let s = x.next in
      decided-from is b (reading F b s i) (named (reading F b s i)) (h ++ i) refl (λ q. (waits b s h i (f refl) q).after) (omega (arith, length-append h i)) g
  decided-from (i ∷ is) b x refused h e f l g = let z : ◌≡◌ {A = ℕ} 0 1 = cc in omega arith
  decided-from (i ∷ is) b x continuation h e f l g = let z : ◌≡◌ {A = ℕ} 0 1 = cc in omega arith
  decided-from (i ∷ is) b x bad_sequence h e f l g = let z : ◌≡◌ {A = ℕ} 0 1 = cc in omega arith
  decided-from (i ∷ is) b x null h e f l g = let z : ◌≡◌ {A = ℕ} 0 1 = cc in omega arith
  decided-from (i ∷ is) b x unit h e f l g = let z : ◌≡◌ {A = ℕ} 0 1 = cc in omega arith

  pub decided : (b : Bits) (s : Record) (h : List ℕ) (is : List (List ℕ)) → sense_of F s ≡ valid (hold h) → n ≤ length h + total is
      → (until_decided F b s is).answer.name ≡ incomplete → ⊥
  decided b s h is e l g = decided-from is b (record { answer = tell incomplete 2 0 0 0; next = s }) incomplete h refl (λ q. e) l g
