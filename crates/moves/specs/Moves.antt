-- What the reading steps over records give, as document 01 tells it. Assumes nothing.
use Rattle.std.specs.Prelude.{ℕ}
use Rattle.advance.specs.Step.{told, Step}
use Rattle.moves.specs.declared.Moved.{Moved}

-- an answer as document 01 tells it, of a call with n bytes of input, and the next state
unfoldable pub moved_of : ℕ → Moved → Step
moved_of n r = record { answer = told n r.answer; next = r.next }
