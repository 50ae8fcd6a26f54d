-- `fresh::page` is safe: a blank image and the Uninitialized record are taken, and the header has eight units.
use Rattle.std.proofs.Common.{◌≡◌, refl, ◌∙◌, true, length, replicate}
use Rattle.flash.specs.Flash.{all_ones}
use Rattle.flash.proofs.Laws.{length-units_whole}
use Rattle.sector.specs.Answers.{Done, accepted}
use Rattle.sector.specs.Header.{header_bytes}
use Rattle.sector.specs.Map.{count_in}
use Rattle.page.specs.Record.{fit_to_use, uninitialized}
use Rattle.call_page_state.specs.Calls.{initialise_checks, initialise_plan, initialise}
use Rattle.cuts.proofs.fresh.page.Goals as goal

blank_taken : accepted (initialise_checks (replicate 4096 0xFF) uninitialized) ≡ true
unfolding all_ones fit_to_use count_in
blank_taken = refl

eight_units : length (initialise_plan 1) ≡ 8
unfolding initialise_plan header_bytes
eight_units = length-units_whole 0 8 (header_bytes 1) refl

fresh_done : (initialise (replicate 4096 0xFF) uninitialized 1 8).answer ≡ Done
unfolding initialise
fresh_done = rw (blank_taken, eight_units) refl

pub unreachable-requires : goal.unreachable-requires
unreachable-requires c =
    let done : c.initialize.result ≡ Done = c.initialize.ensures.answer ∙ rw c.uninitialized-page.ensures fresh_done in
    c.in_default.not-Ok tt done
