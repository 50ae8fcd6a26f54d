-- A refusal of load data and of opening changes nothing: where no check refuses the answer is Done or Stopped, and neither is a refusal.
use mathlib.Core.Path.{◌≡◌, refl, ap}
use mathlib.Core.Bool.{Bool, true, false, cond, false≢true}
use mathlib.Core.List.{List, []}
use Prim.Native.Nat.{ℕ}
use lib.Dec.{eqb}
use lib.ListN.{length, take}
use lib.Seq.{take-nil}
use Rattle.flash.specs.Flash.{Unit4, run}
use Rattle.page.specs.Record.{uninitialized}
use Rattle.page.specs.Writing.{answered, stops}
use Rattle.sector.specs.declared.Refusal.TheVariants.{Stopped}
use Rattle.sector.specs.Answers.{accepted}
use Rattle.call_load_data.specs.Payload.{data_checks, data_answer, data_output}
use Rattle.std.specs.Prelude.{Result, Ok, Err}
use Rattle.opening_found.specs.declared.Header.{Header}
use Rattle.opening_found.specs.declared.Header.TheVariants.{Blank, Opens}
use Rattle.opening_found.specs.declared.HeaderError.{HeaderError}
use Rattle.opening_found.specs.Found.{header_verdict_of}
use Rattle.opening.specs.Opening.{answer_for, plan_for, opening_stopped, opening_stopped_image}
use Rattle.theorem_writing.specs.Promises.{is_refusal}
use Rattle.theorem_refusals.specs.Refusals.{RefusedLoadsNothing, RefusedOpensNothing}

pub refused_loads_nothing : RefusedLoadsNothing
unfolding data_answer data_output
refused_loads_nothing image index output h = by_checks (accepted (data_checks image index (length output))) refl h
  where
    by_checks : (ok : Bool) → accepted (data_checks image index (length output)) ≡ ok
        → is_refusal (data_answer image index (length output)).answer ≡ true
        → (data_output image index output ≡ output) × ((data_answer image index (length output)).size ≡ 0)
    by_checks true e h = absurd (false≢true (rw e at h))
    by_checks false e h = rw e (refl, refl)

-- where nothing is programmed
nothing_run : (n : ℕ) (image : List ℕ) → run (take n []) image ≡ image
unfolding run
nothing_run n image = ap (λ (plan : List Unit4). run plan image) (take-nil n)

-- by the header's verdict, and by whether opening is stopped
refused_verdict : (verdict : Result Header HeaderError) (stopped : Bool) (image : List ℕ) (n : ℕ)
    → is_refusal (cond stopped (answered (Err Stopped) uninitialized) (answer_for verdict image)).answer ≡ true
    → (run (take n (plan_for verdict image)) image ≡ image)
    × ((cond stopped (answered (Err Stopped) uninitialized) (answer_for verdict image)).page ≡ uninitialized)
refused_verdict verdict true image n h = absurd (false≢true h)
refused_verdict (Ok Blank) false image n h = absurd (false≢true h)
refused_verdict (Ok Opens) false image n h = absurd (false≢true h)
refused_verdict (Err reason) false image n h = (nothing_run n image, refl)

pub refused_opens_nothing : RefusedOpensNothing
unfolding opening_stopped opening_stopped_image
refused_opens_nothing image n h = by_size (eqb (length image) 4096) refl h
  where
    by_size : (whole : Bool) → eqb (length image) 4096 ≡ whole → is_refusal (opening_stopped image n).answer ≡ true
        → (opening_stopped_image image n ≡ image) × ((opening_stopped image n).page ≡ uninitialized)
    by_size true e h =
        let verdict = header_verdict_of image in
        rw e (refused_verdict verdict (stops n (plan_for verdict image)) image n (rw e at h))
    by_size false e h = rw e (refl, refl)
