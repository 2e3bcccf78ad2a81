-- What a reading says of a step, finished for its width. Assumes nothing.
use Rattle.std.proofs.Common.{◌≡◌, ℕ, List, ◌∷◌, Option, Some, None, length, MatchOption, refl, sym, subst}
use Rattle.form.specs.Table.{Form}
use Rattle.state.specs.declared.Record.{Record}
use Rattle.state.specs.Meaning.{starting, trail, low, record_of, valid, sense_of}
use Rattle.units.specs.declared.Split.{Split}
use Rattle.units.specs.Width.{Width, width8, left, split_of, TrailGives, LowGives}
use Rattle.advance.specs.declared.Answer.TheVariants.{Refused, Continuation, Unit}
use Rattle.advance.specs.declared.Reading.{Reading}
use Rattle.advance.specs.declared.Reading.TheVariants.{Done, Trail, Low, Code}
use Rattle.advance.specs.declared.Advanced.{Advanced}
use Rattle.advance.specs.declared.Answer.{Answer}
use Rattle.advance.specs.Step.{step}
use Rattle.advance.specs.Advance.{Says, Advances}
use Rattle.advance.proofs.From.{step_is}
use Rattle.moves.specs.declared.Moved.{Moved}
use Rattle.moves.specs.Moves.{moved_of}

module _ (F : Form) (W : Width) (s : Record) (i : List ℕ) where
  says : (a : Advanced) (x : Reading) → Advances F s i a → a.reading ≡ x → Says F s i x a.next
  says a x h e = subst (λ (y : Reading). Says F s i y a.next) e h

  pub done_by : (a : Advanced) (x : Answer) → Advances F s i a → a.reading ≡ Done x → moved_of (length i) (record { answer = x; next = a.next }) ≡ step F W s i
  unfolding moved_of
  done_by a x h e = sym (says a (Done x) h e W)

  -- a unit comes out, or the state is refused
  abbrev pub Out : Option ℕ → Record → Moved → Type 0
  Out o t r = MatchOption o (r ≡ record { answer = Refused; next = s }) (λ u. r ≡ record { answer = Continuation u; next = t })

  pub trail_by : (a : Advanced) (u : ℕ) (o : Option ℕ) (r : Moved) → Advances F s i a → a.reading ≡ Trail u → TrailGives W u o → Out o a.next r → moved_of (length i) r ≡ step F W s i
  unfolding moved_of
  trail_by a u o r h e = let (us, (f, t)) = says a (Trail u) h e in go us f t o
    where
      go : (us : List ℕ) → sense_of F s ≡ valid (trail (u ∷ us)) → a.next ≡ record_of (left width8 us) → (o : Option ℕ) → TrailGives W u o → Out o a.next r → moved_of (length i) r ≡ step F W s i
      go us f t None g q = rw (q, step_is F W s i _ f, g us) refl
      go us f t (Some v) g q = rw (q, step_is F W s i _ f, (g.1 us).0, g.0, t, (g.1 us).1) refl

  pub low_by : (a : Advanced) (u : ℕ) (o : Option ℕ) (r : Moved) → Advances F s i a → a.reading ≡ Low u → LowGives W u o → Out o a.next r → moved_of (length i) r ≡ step F W s i
  unfolding moved_of
  low_by a u o r h e = let (f, t) = says a (Low u) h e in go f t o
    where
      go : sense_of F s ≡ valid (low u) → a.next ≡ record_of starting → (o : Option ℕ) → LowGives W u o → Out o a.next r → moved_of (length i) r ≡ step F W s i
      go f t None g q = rw (q, step_is F W s i _ f, g) refl
      go f t (Some v) g q = rw (q, step_is F W s i _ f, g.1, g.0, t) refl

  pub code_by : (a : Advanced) (c n : ℕ) (w : Split) → Advances F s i a → a.reading ≡ Code c n → w ≡ split_of W c → moved_of (length i) (record { answer = Unit w.first n; next = w.rest }) ≡ step F W s i
  unfolding moved_of split_of
  code_by a c n w h e q = rw q (sym ((says a (Code c n) h e).0 W))
