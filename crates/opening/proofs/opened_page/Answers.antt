-- `opened_page` meets its contract: the units of the first pass, and with what they leave of the budget those of the second.
use Rattle.std.proofs.Common.{◌≡◌, ap, ap₂, ◌∙◌, List, ◌+◌, length, take, arith}
use Rattle.flash.specs.Flash.{Unit4, run}
use Rattle.flash.proofs.Laws.{run_both}
use Rattle.page.specs.Record.{Page}
use Rattle.sector.specs.Layout.{map_of}
use Rattle.opening_marks.specs.Marks.{changed_units}
use Rattle.opening.specs.Opening.{opened_map, first_map, opening_plan, opened_page}
use Rattle.opening.proofs.Units.{length-plan_le}
use Rattle.opening.proofs.opened_page.Goals as goal
use Rattle.opening.proofs.opened_page.Goals.{After-program_changes-programmed}

-- both passes
both : (c : After-program_changes-programmed)
    → (c.program_changes-marked.result + c.program_changes-programmed.result ≡ length (opening_plan c.args.image.now))
    × (c.program_changes-programmed.new.image ≡ run (take c.args.budget (opening_plan c.args.image.now)) c.args.image.now)
unfolding opened_page opening_plan
both c =
    let image = c.args.image.now in
    let budget = c.args.budget in
    let plan = c.changes.ensures in
    let opened : c.changes.result.page.map ≡ opened_map image = ap (λ (page : Page). page.map) plan.page in
    let marks = ap₂ (changed_units 0 8) plan.map plan.first in
    let rest = ap₂ (changed_units 0 8) plan.first opened in
    let marked = c.program_changes-marked.ensures in
    let programmed = c.program_changes-programmed.ensures in
    run_both budget (changed_units 0 8 (map_of image) (first_map image)) (changed_units 0 8 (first_map image) (opened_map image)) image
    (marked.total ∙ ap length marks)
    (programmed.total ∙ ap length rest)
    c.saturating_sub-left.ensures
    (marked.image ∙ ap (λ (plan : List Unit4). run (take budget plan) image) marks)
    (programmed.image ∙ ap (λ (plan : List Unit4). run (take c.saturating_sub-left.result plan) c.program_changes-marked.new.image) rest)

pub overflow_add-result : goal.overflow_add-result
overflow_add-result c =
    let done = (both (goal.at.overflow_add-result c).After-program_changes-programmed).0 in
    omega (arith, done, length-plan_le c.args.image.now)

pub returns : goal.returns
returns c =
    let done = both (goal.at.returns c).After-program_changes-programmed in
    record { opened = (c.changes.ensures.page, done.0); image = done.1 }
