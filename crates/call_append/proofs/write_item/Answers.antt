-- `write_item` meets its contract: a refusal leaves all as it is, else the plan's units are done up to the stop.
use mathlib.Core.Path.{◌≡◌, ap, ◌∙◌}
use mathlib.Core.Bool.{true, false}
use mathlib.Core.List.{List}
use borrow.Author.Rules.{rules}
use lib.ListN.{take}
use Rattle.std.specs.Prelude.{is_ok}
use Rattle.page.specs.Record.{with_item}
use Rattle.page.specs.Writing.{stops}
use Rattle.page.proofs.Checks.{call_refused, call_ended}
use Rattle.sector.proofs.Laws.{accepted_done, accepted_refused}
use Rattle.sector.specs.Answers.{Check, accepted}
use Rattle.call_append.specs.Append.{single_checks, single_plan, with_single, append_single, append_single_image}
use Rattle.call_append.proofs.write_item.Goals as goal

pub returns-in_err-single_refusal : goal.returns-in_err-single_refusal
unfolding append_single append_single_image
returns-in_err-single_refusal c =
    let z = c.args in
    let checks : List Check = single_checks z.image.now z.page.now z.item in
    let refused : is_ok c.single_refusal.result ≡ false = search rules in
    let same : c.from_residual.result ≡ c.single_refusal.result = search rules in
    let plan = single_plan z.page.now z.item in
    let all = call_refused checks z.page.now (with_single z.page.now z.item) z.image.now (stops z.stop plan) (take z.stop plan)
    (same ∙ c.single_refusal.ensures.answer) (accepted_refused checks c.single_refusal.ensures.answer refused) in
    record { answer = all.0; page = all.1; image = all.2 }

pub returns : goal.returns
unfolding append_single append_single_image
returns c =
    let z = c.args in
    let checks : List Check = single_checks z.image.now z.page.now z.item in
    let done : is_ok c.single_refusal.result ≡ true = search rules in
    let accepts : accepted checks ≡ true = accepted_done checks c.single_refusal.ensures.answer done in
    let made : c.with_item-new.result ≡ with_single z.page.now z.item = c.with_item-new.ensures ∙ ap (with_item _ _ _) c.calculate_hash-hash.ensures in
    let all = call_ended checks z.page.now (with_single z.page.now z.item) z.image.now z.stop (single_plan z.page.now z.item) accepts
    c.write_single-total.ensures.total made c.write_single-total.ensures.image c.ended.ensures.answer c.ended.ensures.page in
    record { answer = all.0; page = all.1; image = all.2 }
