-- Demand 1 of load data and of opening: a refusal changes nothing. Of the writing calls it is `RefusedChangesNothing` (theorem_writing/Promises).
--
-- Each statement is a type; proofs/ has a proof of each.
use Rattle.std.specs.Prelude.{◌≡◌, true, List, ℕ, length}
use Rattle.page.specs.Record.{uninitialized}
use Rattle.call_load_data.specs.Payload.{data_answer, data_output}
use Rattle.opening.specs.Opening.{opening_stopped, opening_stopped_image}
use Rattle.theorem_writing.specs.Promises.{is_refusal}

-- a refused load data leaves the output as it was, and hands back no size
abbrev pub RefusedLoadsNothing : Type 0
RefusedLoadsNothing =
    (image : List ℕ) (index : ℕ) (output : List ℕ) → is_refusal (data_answer image index (length output)).answer ≡ true
    → (data_output image index output ≡ output) × ((data_answer image index (length output)).size ≡ 0)

-- a refused opening leaves the image as it was, and hands back the Uninitialized record
abbrev pub RefusedOpensNothing : Type 0
RefusedOpensNothing =
    (image : List ℕ) (n : ℕ) → is_refusal (opening_stopped image n).answer ≡ true
    → (opening_stopped_image image n ≡ image) × ((opening_stopped image n).page ≡ uninitialized)
