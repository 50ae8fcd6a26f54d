-- `mark_as_full` meets its contract: a refusal leaves all as it is, else the state word is programmed, in one unit.
use mathlib.Core.Path.{◌≡◌, refl, ap, ◌∙◌}
use mathlib.Core.Bool.{true, false}
use mathlib.Core.List.{List, []}
use native.Mathlib.Omega.{arith}
use borrow.Author.Rules.{rules}
use lib.Seq.{take_all}
use Rattle.std.specs.Prelude.{is_ok}
use Rattle.flash.specs.Flash.{Unit4, run}
use Rattle.sector.proofs.Laws.{accepted_done, accepted_refused}
use Rattle.page.proofs.Checks.{accepted_usable, call_refused, call_whole}
use Rattle.page.specs.Writing.{not_active}
use Rattle.sector.specs.Answers.{Check}
use Rattle.call_page_state.specs.Calls.{mark_full_checks, mark_full_plan, marked_full, mark_full, mark_full_image}
use Rattle.call_page_state.proofs.Laws.{length-mark_full_plan}
use Rattle.call_page_state.proofs.mark_as_full.Goals as goal

pub returns-in_err-append_refusal : goal.returns-in_err-append_refusal
unfolding mark_full mark_full_image
returns-in_err-append_refusal c =
    let z = c.args in
    let checks : List Check = mark_full_checks z.image.now z.page.now in
    let refused : is_ok c.append_refusal.result ≡ false = search rules in
    let same : c.from_residual.result ≡ c.append_refusal.result = search rules in
    let all = call_refused checks z.page.now (marked_full z.page.now) z.image.now false mark_full_plan
    (same ∙ c.append_refusal.ensures) (accepted_refused checks c.append_refusal.ensures refused) in
    record { answer = all.0; page = all.1; image = all.2 }

pub write_full-requires : goal.write_full-requires
write_full-requires c =
    let z = c.args in
    let done : is_ok c.append_refusal.result ≡ true = search rules in
    (accepted_usable z.image.now z.page.now (not_active z.page.now).0 [] (accepted_done (mark_full_checks z.image.now z.page.now) c.append_refusal.ensures done)).whole

pub returns : goal.returns
unfolding mark_full mark_full_image mark_full_plan marked_full
returns c =
    let z = c.args in
    let checks : List Check = mark_full_checks z.image.now z.page.now in
    let done : is_ok c.append_refusal.result ≡ true = search rules in
    let all = call_whole checks z.page.now (marked_full z.page.now) z.image.now mark_full_plan
    (accepted_done checks c.append_refusal.ensures done) refl
    (c.write_full.ensures.image ∙ ap (λ (plan : List Unit4). run plan z.image.now) (take_all 1 mark_full_plan (omega (arith, length-mark_full_plan)))) in
    record { answer = all.0; page = all.1; image = all.2 }
