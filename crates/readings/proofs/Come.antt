-- Laws of how far a reading has come. Assumes nothing.
use mathlib.Core.Path.{◌≡◌, refl, sym, ap, ◌∙◌}
use mathlib.Core.Logic.{◌⊎◌, inl, inr}
use mathlib.Core.Bool.{false}
use mathlib.Core.List.{List, [], ◌∷◌, ◌++◌, map, map-append, append_assoc}
use Prim.Native.Nat.{ℕ, zero, suc, ◌+◌, ◌-◌, ◌*◌, ◌/◌, ◌≤◌, ◌<◌}
use native.Mathlib.Nat.{zero-add, add-zero}
use native.Mathlib.Omega.{arith}
use native.Mathlib.Decide.{dec_le}
use lib.ListN.{length, get_or, take, drop, length-append, length-drop, length-map}
use lib.Seq.{drop-drop, drop-cons, take-suc, take-add, length-take-le, drop-length, get_or-take, get_or-drop}
use borrow.Author.Tests.{ne_eqb, lt-ltb, le-ltb}
use borrow.Author.Rules.{part_to_end}
use borrow.Rule.Slice.PartMut.{mid_of, put_mid, same_len_mid}
use Rattle.numbers.specs.Number.{laid_in}
use Rattle.numbers.specs.Filled.{Filled}
use Rattle.numbers.proofs.Laws.{laid-length, laid-append}
use Rattle.numbers.proofs.Filled.{filled_none, filled-front, filled-same, filled-part, filled_more, filled_put}
use Rattle.flags.specs.declared.Flags.{Flags}
use Rattle.form.specs.Table.{Form}
use Rattle.form.specs.Scan.{well, bad, scan}
use Rattle.form.specs.Text.{escape}
use Rattle.readings.specs.Reading.{convert, turn, stopped, follow, reading}
use Rattle.readings.specs.Come.{as_is, Layout, Rooms, Converts, Come, Onward, single, Singles}
use Rattle.readings.proofs.Readings.{reading-stop, reading-convert, follow-follow, follow-none, turn-found, turn-within, by-places}
use Rattle.readings.proofs.Theorems.{resume, reading-within, reading-more}

-- ---- what is converted

module _ (F : Form) (m : Flags) where
  pub converts-none : (s : List ℕ) → Converts F m s [] 0
  converts-none s = record { within = omega arith; goes_on = λ room. rw (zero-add room) (sym (follow-none (reading F m room s))) }

  pub converts-one : (s : List ℕ) (c k : ℕ) → turn F m s ≡ convert c k → Converts F m s (c ∷ []) k
  converts-one s c k e =
      record {
        within = turn-within F m s c k e;
        goes_on = λ room. let n : length (c ∷ []) + room ≡ suc room = omega arith in rw n (reading-convert F m room s c k e);
      }

  pub converts-on : (s cs ds : List ℕ) (k j : ℕ) → Converts F m s cs k → Converts F m (drop k s) ds j → Converts F m s (cs ++ ds) (k + j)
  converts-on s cs ds k j C D =
      record {
        within = omega (arith, C.within, D.within, length-drop k s);
        goes_on =
            λ room.
            let n : length (cs ++ ds) + room ≡ length cs + (length ds + room) = omega (arith, length-append cs ds) in
            rw n (C.goes_on (length ds + room))
            ∙ ap (follow cs k) (D.goes_on room)
            ∙ follow-follow cs ds k j (reading F m room (drop j (drop k s)))
            ∙ ap (λ (t : List ℕ). follow (cs ++ ds) (k + j) (reading F m room t)) (drop-drop j k s);
      }

  -- what any reading gives, however it ended
  pub converts-reading : (a : ℕ) (s : List ℕ) → Converts F m s (reading F m a s).codes (reading F m a s).consumed
  unfolding stopped follow
  converts-reading =
      by-places F m (λ a s R. Converts F m s R.codes R.consumed) (λ a s q k e. converts-none s) (λ s c k e. converts-none s)
      (λ a s c k e C. converts-on s (c ∷ []) _ k _ (converts-one s c k e) C)

-- ---- single codes

pub single-ascii : (b : ℕ) → b < 0x80 → single b ≡ b
unfolding single
single-ascii b h = rw (lt-ltb b 0x80 h) refl

pub single-escape : (b : ℕ) → 0x80 ≤ b → single b ≡ escape b
unfolding single
single-escape b h = rw (le-ltb b 0x80 h) refl

-- ---- codes in a buffer

-- a code is one cell
pub cells : Layout as_is (λ n. n)
cells = record { empty = refl; lengths = λ l. refl; adds = λ n i. refl; joins = λ a b. refl }

pub cell-rooms : Rooms (λ n. n) (λ k. k)
cell-rooms = record { covers = λ n. omega arith; fits = λ n k h. h; most = λ n k h. h }

-- a code is four bytes, low byte first
pub packed : Layout (laid_in 4) (λ n. n * 4)
packed = record { empty = refl; lengths = laid-length 4; adds = λ n i. omega arith; joins = laid-append 4 }

pub packed-rooms : Rooms (λ n. n * 4) (λ k. k / 4)
packed-rooms = record { covers = λ n. omega arith; fits = λ n k h. omega arith; most = λ n k h. omega arith }

module _ {A : Type 0} {lay : List ℕ → List A} {w : ℕ → ℕ} (L : Layout lay w) where
  -- codes that are put behind others are put with them
  pub puts-join : (d p q : List A) (n k : ℕ) (xs ys : List ℕ) → k ≡ n + length xs → w n + w (length xs + length ys) ≤ length d
      → p ≡ take (w n) d ++ lay xs ++ drop (w n + w (length xs)) d → q ≡ take (w k) p ++ lay ys ++ drop (w k + w (length ys)) p
      → q ≡ take (w n) d ++ lay (xs ++ ys) ++ drop (w n + w (length xs + length ys)) d
  puts-join d p q n k xs ys z h e f =
      let u : w k ≡ w n + w (length xs) = ap w z ∙ L.adds n (length xs) in
      let v = L.adds (length xs) (length ys) in
      let x = L.lengths xs in
      let y = L.lengths ys in
      let front = take (w n) d in
      let t : length front ≡ w n = length-take-le (w n) d (omega arith) in
      let first = filled_put d d front (filled-front d (w n) (omega arith)) (w n) t (lay xs) p (omega arith) (rw x e) in
      let both = filled_put d p (front ++ lay xs) first (w k) (omega (arith, length-append front (lay xs))) (lay ys) q (omega arith) (rw y f) in
      let m : length (front ++ lay xs ++ lay ys) ≡ w n + w (length xs + length ys) = omega (arith, length-append (front ++ lay xs) (lay ys), length-append front (lay xs)) in
      let j : front ++ lay xs ++ lay ys ≡ front ++ lay (xs ++ ys) = append_assoc front (lay xs) (lay ys) ∙ ap (λ (v : List A). front ++ v) (sym (L.joins xs ys)) in
      both.front ∙ ap (λ (i : ℕ). front ++ lay xs ++ lay ys ++ drop i d) m ∙ ap (λ (v : List A). v ++ drop (w n + w (length xs + length ys)) d) j

  -- no cells for no codes
  pub none-empty : w 0 ≡ 0
  none-empty = sym (L.lengths []) ∙ ap length L.empty

  -- what is left of the room behind n codes
  pub holds-rest : {holds : ℕ → ℕ} → Rooms w holds → (n k : ℕ) → w n ≤ k → holds (k - w n) ≡ holds k - n
  holds-rest {holds} H n k h =
      let x = holds (k - w n) in
      let y = holds k - n in
      let l : n ≤ holds k = H.most n k h in
      let e : n + y ≡ holds k = omega arith in
      let u : n + x ≤ holds k = H.most (n + x) k (omega (arith, L.adds n x, H.fits x (k - w n) (omega arith))) in
      let v : w (n + y) ≤ k = H.fits (n + y) k (omega arith) in
      let t : y ≤ x = H.most y (k - w n) (omega (arith, L.adds n y)) in
      omega arith

  -- codes that are put at the front
  pub puts-front : (d p : List A) (xs : List ℕ) → w 0 + w (length xs) ≤ length d → p ≡ take (w 0) d ++ lay xs ++ drop (w 0 + w (length xs)) d → Filled d p (lay xs)
  puts-front d p xs h e =
      let x = L.lengths xs in
      filled_put d d [] (filled_none d) 0 refl (lay xs) p (omega arith) (rw x (rw none-empty at e))

  pub come_start : (F : Form) (m : Flags) (s : List ℕ) (d : List A) → Come lay F m s d d 0 0
  come_start F m s d = record { codes = []; count = refl; converts = converts-none F m s; filled = rw L.empty (filled_none d) }

  module _ {F : Form} {m : Flags} {s : List ℕ} {d₀ d : List A} {at n : ℕ} (r : Come lay F m s d₀ d at n) where
    size : length (lay r.codes) ≡ w n
    size = L.lengths r.codes ∙ ap w r.count

    pub come_same : length d ≡ length d₀
    come_same = filled-same d₀ d (lay r.codes) r.filled

    pub come-room : w n ≤ length d₀
    come-room = rw (← size) r.filled.fits

    -- ---- how it ends

    module _ (room : ℕ) (h : n ≤ room) where
      whole : reading F m room s ≡ follow r.codes at (reading F m (room - n) (drop at s))
      whole =
          let e : room ≡ length r.codes + (room - n) = omega (arith, r.count) in
          ap (λ (k : ℕ). reading F m k s) e ∙ r.converts.goes_on (room - n)

      pub come-used-up : at ≡ length s → reading F m room s ≡ follow r.codes at (stopped 0 0)
      come-used-up e = whole ∙ ap (follow r.codes at) (rw (e, drop-length s) (reading-stop F m (room - n) [] 0 0 refl))

      -- a reading by less room that did not stop for it, or left none, is all that is read
      pub come-stops : (a : ℕ) → a ≤ room - n
          → ((reading F m a (drop at s)).number ≡ 1 → ⊥) ⊎ (n + length (reading F m a (drop at s)).codes ≡ room)
          → reading F m room s ≡ follow r.codes at (reading F m a (drop at s))
      unfolding resume
      come-stops a l (inl g) =
          let k : room - n ≡ a + (room - n - a) = omega arith in
          whole
          ∙ ap (λ (x : ℕ). follow r.codes at (reading F m x (drop at s))) k
          ∙ ap (follow r.codes at) (reading-more F m a (room - n - a) (drop at s) ∙ rw (ne_eqb (reading F m a (drop at s)).number 1 g) refl)
      come-stops a l (inr g) =
          let k : room - n ≡ a = omega (arith, (reading-within F m a (drop at s)).1) in
          whole ∙ ap (λ (x : ℕ). follow r.codes at (reading F m x (drop at s))) k

    -- the codes of a reading of what is left come behind the others
    pub come-reading : (a : ℕ) (p : List A) → Filled d₀ p (lay (r.codes ++ (reading F m a (drop at s)).codes))
        → Come lay F m s d₀ p (at + (reading F m a (drop at s)).consumed) (n + length (reading F m a (drop at s)).codes)
    come-reading a p f =
        let R = reading F m a (drop at s) in
        record {
          codes = r.codes ++ R.codes;
          count = length-append r.codes R.codes ∙ ap (λ (k : ℕ). k + length R.codes) r.count;
          converts = converts-on F m s r.codes R.codes at R.consumed r.converts (converts-reading F m a (drop at s));
          filled = f;
        }

    -- and stand in a part of the buffer that was lent
    pub come-lent : (l : List ℕ) (p : List A) → Filled (mid_of (w n) (length d - w n) d) p (lay l) → Filled d₀ (put_mid (w n) (length d - w n) d p) (lay (r.codes ++ l))
    come-lent l p f =
        let o = filled-part d₀ d (lay r.codes) r.filled (w n) size in
        let h : length (lay l) ≤ length d₀ - w n = omega (arith, f.fits, ap length o, length-drop (w n) d₀) in
        rw (L.joins r.codes l) (filled_more d₀ d (lay r.codes) r.filled (w n) size (lay l) p h f.front)

    -- a part of the buffer, `&mut d[w n..]`, was lent with the bytes from `at` on
    pub come-part : (p : List A) (j i : ℕ) → Come lay F m (take (length s - at) (drop at s)) (mid_of (w n) (length d - w n) d) p j i
        → Come lay F m s d₀ (put_mid (w n) (length d - w n) d p) (at + j) (n + i)
    come-part p j i q =
        record {
          codes = r.codes ++ q.codes;
          count = length-append r.codes q.codes ∙ omega (arith, r.count, q.count);
          converts = converts-on F m s r.codes q.codes at j r.converts (rw (part_to_end s at) at q.converts);
          filled = come-lent q.codes p q.filled;
        }

  -- ---- onward

  pub onward-start : (F : Form) (m : Flags) (s : List ℕ) (d : List A) (at n : ℕ) → Onward lay F m s d d at n at n
  onward-start F m s d at n = record { same = refl; forth = omega arith; keeps = λ z r. r }

  module _ {F : Form} {m : Flags} {s : List ℕ} {d₀ d : List A} {at₀ n₀ at n : ℕ} (o : Onward lay F m s d₀ d at₀ n₀ at n) where
    pub onward-part : (p : List A) (j i : ℕ) → Come lay F m (take (length s - at) (drop at s)) (mid_of (w n) (length d - w n) d) p j i
        → Onward lay F m s d₀ (put_mid (w n) (length d - w n) d p) at₀ n₀ (at + j) (n + i)
    onward-part p j i q =
        record {
          same = same_len_mid (w n) (length d - w n) d p (come_same q) ∙ o.same;
          forth = omega (arith, o.forth);
          keeps = λ z r. come-part (o.keeps z r) p j i q;
        }

    -- a part that comes back as it was
    pub onward-none : (p : List A) → p ≡ mid_of (w n) (length d - w n) d → Onward lay F m s d₀ (put_mid (w n) (length d - w n) d p) at₀ n₀ at n
    onward-none p e = rw (add-zero at, add-zero n) at (onward-part p 0 0 (rw (← e) (come_start F m _ p)))

  -- ---- bytes that are read one by one

  pub singles-none : (limit i : ℕ) (s : List ℕ) (d : List A) → Singles lay limit i s d d 0
  singles-none limit i s d = record { within = omega arith; below = λ j g h. absurd (omega arith); filled = rw L.empty (filled_none d) }

  module _ {limit i : ℕ} {s : List ℕ} {d₀ d : List A} {n : ℕ} (r : Singles lay limit i s d₀ d n) where
    singled : length (lay (map single (take n s))) ≡ w n
    singled = L.lengths (map single (take n s)) ∙ ap w (length-map (take n s) single ∙ length-take-le n s r.within)

    pub singles-same : length d ≡ length d₀
    singles-same = filled-same d₀ d (lay (map single (take n s))) r.filled

    pub singles-room : w n ≤ length d₀
    singles-room = rw (← singled) r.filled.fits

    -- the bytes v are put behind them
    pub singles-more : (v : List ℕ) (p : List A) → n + length v ≤ length s → v ≡ take (length v) (drop n s)
        → ((j : ℕ) → i ≤ n + j → j < length v → get_or v j 0 < limit)
        → w n + w (length v) ≤ length d₀ → p ≡ take (w n) d ++ lay (map single v) ++ drop (w n + w (length v)) d
        → Singles lay limit i s d₀ p (n + length v)
    singles-more v p h e g l q =
        let t : take (n + length v) s ≡ take n s ++ v = take-add n (length v) s ∙ ap (λ (x : List ℕ). take n s ++ x) (sym e) in
        let u : lay (map single (take (n + length v) s)) ≡ lay (map single (take n s)) ++ lay (map single v) =
        ap (λ (x : List ℕ). lay (map single x)) t ∙ ap lay (map-append single (take n s) v) ∙ L.joins (map single (take n s)) (map single v)
        in
        let z : length (lay (map single v)) ≡ w (length v) = L.lengths (map single v) ∙ ap w (length-map v single) in
        record {
          within = h;
          below = below;
          filled = rw u (filled_put d₀ d (lay (map single (take n s))) r.filled (w n) singled (lay (map single v)) p (omega arith) (rw z q));
        }
      where
        below : (j : ℕ) → i ≤ j → j < n + length v → get_or s j 0 < limit
        below j a b = go (dec_le n j)
          where
            go : Dec (n ≤ j) → get_or s j 0 < limit
            go (no c) = r.below j a (omega arith)
            go (yes c) =
                let k : n + (j - n) ≡ j = omega arith in
                let x : get_or v (j - n) 0 ≡ get_or s j 0 =
                ap (λ (y : List ℕ). get_or y (j - n) 0) e ∙ get_or-take (length v) (drop n s) (j - n) 0 (omega arith) ∙ get_or-drop n s (j - n) 0 ∙ ap (λ (y : ℕ). get_or s y 0) k
                in
                rw (← x) (g (j - n) (omega arith) (omega arith))

    -- a byte is put
    pub singles-put : (b x : ℕ) (p : List A) → n < length s → b ≡ get_or s n 0 → x ≡ single b → (i ≤ n → b < limit) → w n + w 1 ≤ length d₀
        → p ≡ take (w n) d ++ lay (x ∷ []) ++ drop (w n + w 1) d → Singles lay limit i s d₀ p (n + 1)
    singles-put b x p h e u g l q =
        singles-more (b ∷ []) p (omega arith) (ap (λ (y : ℕ). y ∷ []) e ∙ sym (ap (take 1) (drop-cons s n 0 h))) (λ j c k. let z : j ≡ 0 = omega arith in rw z (g (omega arith)))
        l (rw (← u) q)

  -- where each byte below the limit is read by itself, and the bytes before the place i are, too
  singles-convert : {F : Form} {m : Flags} (limit i : ℕ) → ((b : ℕ) (t : List ℕ) → b < limit → turn F m (b ∷ t) ≡ convert (single b) 1)
      → (s : List ℕ) (n : ℕ) → n ≤ length s → ((j : ℕ) → i ≤ j → j < n → get_or s j 0 < limit)
      → ((j : ℕ) → j < i → j < n → turn F m (drop j s) ≡ convert (single (get_or s j 0)) 1)
      → Converts F m s (map single (take n s)) n
  singles-convert {F} {m} limit i law s zero h b a = converts-none F m s
  singles-convert {F} {m} limit i law s (suc n) h b a =
      let C = singles-convert limit i law s n (omega arith) (λ j g k. b j g (omega arith)) (λ j g k. a j g (omega arith)) in
      let t : map single (take (suc n) s) ≡ map single (take n s) ++ (single (get_or s n 0) ∷ []) =
      ap (map single) (take-suc s n 0 (omega arith)) ∙ map-append single (take n s) (get_or s n 0 ∷ [])
      in
      let k : suc n ≡ n + 1 = omega arith in
      rw (t, k) (converts-on F m s (map single (take n s)) (single (get_or s n 0) ∷ []) n 1 C (converts-one F m (drop n s) (single (get_or s n 0)) 1 (here (dec_le i n))))
    where
      here : Dec (i ≤ n) → turn F m (drop n s) ≡ convert (single (get_or s n 0)) 1
      here (yes g) = rw (drop-cons s n 0 (omega arith)) (law (get_or s n 0) (drop (suc n) s) (b n g (omega arith)))
      here (no g) = a n (omega arith) (omega arith)

  pub singles-come : {F : Form} {m : Flags} {limit i : ℕ} {s : List ℕ} {d₀ d : List A} {n : ℕ} → Singles lay limit i s d₀ d n
      → ((b : ℕ) (t : List ℕ) → b < limit → turn F m (b ∷ t) ≡ convert (single b) 1)
      → ((j : ℕ) → j < i → j < n → turn F m (drop j s) ≡ convert (single (get_or s j 0)) 1)
      → Come lay F m s d₀ d n n
  singles-come {F} {m} {limit} {i} {s} {d₀} {d} {n} r law a =
      record {
        codes = map single (take n s);
        count = length-map (take n s) single ∙ length-take-le n s r.within;
        converts = singles-convert limit i law s n r.within r.below a;
        filled = r.filled;
      }

-- ---- the turns of a leap

module _ (F : Form) (m : Flags) (b : ℕ) (t : List ℕ) where
  -- a sequence
  pub turn-well : (c k : ℕ) → scan F (b ∷ t) ≡ well c k → turn F m (b ∷ t) ≡ convert c k
  turn-well c k e = turn-found F m b t (well c k) e

  -- a bad byte, without STRICT and SHOW
  pub turn-bad : (n : ℕ) → m.strict ≡ false → m.show ≡ false → scan F (b ∷ t) ≡ bad n → turn F m (b ∷ t) ≡ convert (escape b) 1
  turn-bad n p q e = turn-found F m b t (bad n) e ∙ rw (p, q) refl
