-- The words of a reason, the same as in the header for C (C-14). Assumes nothing.
use Rattle.std.specs.Prelude.{List, ℕ, codes}
use Rattle.reason.specs.declared.Reason.{Reason}
use Rattle.reason.specs.declared.Reason.TheVariants.{Good, Lone, Never, Beyond, TooLong, Surrogate, TooHigh, CutShort, Unfinished, AtEnd}

abbrev pub words : Reason → List ℕ
words Good = codes "well-formed"
words Lone = codes "a continuation byte with nothing to continue"
words Never = codes "C0 and C1 begin no sequence"
words Beyond = codes "F5 to FF begin no sequence"
words TooLong = codes "too long a form of its code"
words Surrogate = codes "a surrogate, D800 to DFFF"
words TooHigh = codes "above 10FFFF, the last code"
words CutShort = codes "no continuation byte follows"
words Unfinished = codes "the end of the input cuts it off"
words AtEnd = codes "at or past the end"
