-- What a writing call leaves in its record's buffer.
use Rattle.std.specs.Prelude.{cond, List, ℕ, eqb}
use Rattle.sector.specs.Answers.{number_of}
use Rattle.boundary_encoding.specs.Encoding.{record_bytes}
use Rattle.page.specs.Writing.{Outcome}

-- the new record where the call is done, else the bytes that came in
unfoldable pub record_left : List ℕ → Outcome → List ℕ
record_left buffer outcome = cond (eqb (number_of outcome.answer) 0) (record_bytes outcome.page) buffer
