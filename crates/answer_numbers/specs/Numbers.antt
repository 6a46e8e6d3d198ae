-- The numbers that the exported calls give: below 2^63 the answer, from there on 2^63 and document 01's number of the refusal.
use Rattle.std.specs.Prelude.{Ok, Err, true, false, ℕ, ◌+◌, ◌*◌, ◌^◌, Bool, List}
use Rattle.encoding.specs.declared.Refusal.{Refusal}
use Rattle.encoding.specs.Refusals.{Answer, number}
use Rattle.parts.specs.declared.Span.{Span}

abbrev pub refused_number : Refusal → ℕ
refused_number r = 2 ^ 63 + number r

-- a length or a count
abbrev pub count_number : Answer ℕ → ℕ
count_number (Ok n) = n
count_number (Err r) = refused_number r

-- a call that fills a buffer: the number, and what the buffer holds afterwards
abbrev pub count_call : Answer ℕ × List ℕ → ℕ × List ℕ
count_call x = (count_number x.0, x.1)

-- yes or no
abbrev pub truth_number : Answer Bool → ℕ
truth_number (Ok true) = 1
truth_number (Ok false) = 0
truth_number (Err r) = refused_number r

abbrev pub part_number : Answer Span → ℕ
part_number (Ok s) = s.start * 65536 + s.length
part_number (Err r) = refused_number r
