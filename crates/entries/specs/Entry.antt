-- What a C entry answers and leaves in its buffers ("The C side"). Assumes nothing.
use Rattle.std.specs.Prelude.{Bool, ◌&&◌, cond, List, [], ◌∷◌, ◌++◌, ℕ, ◌/◌, ◌%◌, eqb, leb, ℤ, pos, neg_ℤ, length}
use Rattle.codings.specs.declared.Coding.{Coding}
use Rattle.codings.specs.declared.Coding.TheVariants.{Utf8}
use Rattle.readings.specs.Reading.{decoding_in}
use Rattle.writings.specs.Writing.{encoding_in}
use Rattle.numbers.specs.Number.{low_first, over}
use Rattle.quads.specs.Bytes.{laid, codes_of}

-- the answer, and the output and the report at exit
pub record Entry : Type 0 where
  pub answer : ℤ
  pub output : List ℕ
  pub report : List ℕ

abbrev pub entry : ℤ → List ℕ → List ℕ → Entry
entry a output report = record { answer = a; output = output; report = report }

-- refused by number: nothing is written
abbrev pub refused : ℕ → List ℕ → List ℕ → Entry
refused q output report = entry (neg_ℤ (pos q)) output report

-- the items produced, or -1 for number 3 with nothing produced
abbrev pub answer_of : ℕ → ℕ → ℤ
answer_of q items = cond (eqb q 3 && eqb items 0) (neg_ℤ (pos 1)) (pos items)

-- what a call with this number, these counts, this length of a maximal subpart and these bytes gives
unfoldable pub given : ℕ → ℕ → ℕ → ℕ → List ℕ → List ℕ → List ℕ → Entry
given q consumed items subpart bytes output report =
    cond (eqb q 4) (refused 4 output report) (entry (answer_of q items) (over bytes output) (low_first 8 consumed ++ (subpart ∷ [])))

-- a report has 9 bytes: 8 for the count, and 1 for the length
abbrev pub is_report : List ℕ → Bool
is_report r = eqb (length r) 9

-- a buffer has at most 1,048,576 bytes
abbrev pub in_limit : List ℕ → Bool
in_limit s = leb (length s) 1048576

-- the reader's entry in a coding, in this order: 6, 8, 4
unfoldable pub decode_entry_in : Coding → List ℕ → List ℕ → ℕ → List ℕ → Entry
decode_entry_in K src codes flags report =
    let R = decoding_in K flags (length codes / 4) src in
    cond (is_report report)
    (cond (in_limit src && in_limit codes) (given R.number R.consumed (length R.codes) R.subpart (laid R.codes) codes report) (refused 8 codes report))
    (refused 6 codes report)

-- the writer's, in this order: 6, 8, 7, 4
unfoldable pub encode_entry_in : Coding → List ℕ → List ℕ → ℕ → List ℕ → Entry
encode_entry_in K codes dst flags report =
    let W = encoding_in K flags (length dst) (codes_of codes) in
    cond (is_report report)
    (cond (in_limit codes && in_limit dst)
    (cond (eqb (length codes % 4) 0) (given W.number W.consumed (length W.written) 0 W.written dst report) (refused 7 dst report))
    (refused 8 dst report))
    (refused 6 dst report)

-- and in UTF-8
abbrev pub decode_entry : List ℕ → List ℕ → ℕ → List ℕ → Entry
decode_entry = decode_entry_in Utf8

abbrev pub encode_entry : List ℕ → List ℕ → ℕ → List ℕ → Entry
encode_entry = encode_entry_in Utf8
