-- Demand 3 holds of the calls of every coding. Assumes nothing.
use mathlib.Core.Path.{◌≡◌, refl, sym, ap, ◌∙◌}
use mathlib.Core.Logic.{◌⊎◌, inl, inr}
use mathlib.Core.List.{List, [], ◌∷◌}
use Prim.Native.Nat.{ℕ, ◌+◌, ◌≤◌}
use native.Mathlib.Omega.{arith}
use lib.ListN.{length, length-append}
use Rattle.form.specs.Table.{Form, Scalar, Escape}
use Rattle.form.specs.Text as Text
use Rattle.form.specs.Text.{bytes, read, write, All, Bytes, Accepted}
use Rattle.form.proofs.Demand as Lists
use Rattle.form.proofs.Demand.{write_bytes}
use Rattle.form.proofs.Utf8.{scalar_below}
use Rattle.codings.specs.declared.Coding.{Coding}
use Rattle.codings.specs.Codings.{writer_form, runs}
use Rattle.codings.proofs.Laws.{sound}
use Rattle.readings.proofs.Theorems.{reads_all}
use Rattle.writings.proofs.Theorems.{encoding-write}
use Rattle.roundtrip.specs.Demand.{Reads, Writes, needs, CleanList, Demand3}

module _ (K : Coding) where
  abbrev F : Form
  F = writer_form K

  pub lists : Text.Demand3 F (runs K)
  lists = Lists.demand3 F (runs K) (sound K)

  write-length : (l : List ℕ) → length (write F l) ≡ needs K l
  write-length [] = refl
  write-length (c ∷ l) = length-append (bytes F c) (write F l) ∙ ap (λ (n : ℕ). length (bytes F c) + n) (write-length l)

  clean-accepted : (l : List ℕ) → CleanList K l → Accepted l
  clean-accepted l h = go l h.0
    where
      below : (c : ℕ) → Scalar c ⊎ Escape c → c ≤ 0x10FFFF
      below c (inl h) = scalar_below c h
      below c (inr h) = omega arith

      go : (l : List ℕ) → All (λ c. Scalar c ⊎ Escape c) l → Accepted l
      go [] h = tt
      go (c ∷ l) h = (below c h.0, go l h.1)

  -- the two calls are `read` and `write`

  reads : (s : List ℕ) (r : ℕ) → length s ≤ r → Reads K r s (read F s)
  reads s r h = rw (reads_all K r s h) (refl, refl, refl)

  is_read : (s l : List ℕ) (r : ℕ) → length s ≤ r → Reads K r s l → l ≡ read F s
  is_read s l r h g = sym g.2 ∙ (reads s r h).2

  writes : (l : List ℕ) (w : ℕ) → Accepted l → needs K l ≤ w → Writes K w l (write F l)
  writes l w a h = rw (encoding-write K l w a (omega (arith, write-length l))) (refl, refl, refl)

  is-write : (l s : List ℕ) (w : ℕ) → Accepted l → needs K l ≤ w → Writes K w l s → s ≡ write F l
  is-write l s w a h g = sym g.2 ∙ (writes l w a h).2

  pub read-accepted : (s : List ℕ) → Bytes s → Accepted (read F s)
  read-accepted s b = clean-accepted (read F s) (lists.clean s b)

  -- a list that is read is written as those bytes
  read-writes : (s l : List ℕ) (r w : ℕ) → Bytes s → length s ≤ r → Reads K r s l → needs K l ≤ w → Writes K w l s
  read-writes s l r w b h g n =
      let e = is_read s l r h g in
      let a : Accepted l = rw e (read-accepted s b) in
      rw (ap (write F) e ∙ lists.exact s b) at (writes l w a n)

  -- what was written of an accepted list are bytes
  written-bytes : (l s : List ℕ) (w : ℕ) → Accepted l → needs K l ≤ w → Writes K w l s → Bytes s
  written-bytes l s w a n h = rw (is-write l s w a n h) (write_bytes F l (sound K).regular.is_proper)

  pub demand3 : Demand3 K
  demand3 =
      record {
        clean = λ s r b h. (read F s, reads s r h, lists.clean s b);
        exact = read-writes;
        only =
            λ s l k r w b h g c d n.
            let e = is_read s l r h g in
            (write F k, writes k w (clean-accepted k c) n, λ z. lists.only s k b c (λ y. d (y ∙ sym e)) z);
        accepts = λ l w a n. (write F l, writes l w a n, write_bytes F l (sound K).regular.is_proper);
        alike =
            λ l m s t a b v w r q al am nl nm wl wm h k ra rb.
            let e = is-write l s v al nl wl in
            let f = is-write m t w am nm wm in
            let x = is_read s a r h ra in
            let y = is_read t b q k rb in (
              λ z. x ∙ ap (read F) z ∙ sym y,
              λ z. e ∙ (lists.alike l m al am).1 (sym (ap (read F) e) ∙ sym x ∙ z ∙ y ∙ ap (read F) f) ∙ sym f,
            );
        again = λ l s a w r v al nl wl h ra na. read-writes s a r v (written-bytes l s w al nl wl) h ra na;
        settled =
            λ l s a t w r v q al nl wl h ra na wt k.
            let e : t ≡ s = sym wt.2 ∙ (read-writes s a r v (written-bytes l s w al nl wl) h ra na).2 in
            rw (is_read s a r h ra ∙ ap (read F) (sym e)) (reads t q k);
      }
