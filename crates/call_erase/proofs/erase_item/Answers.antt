-- `call_erase::erase_item` meets its contract: where no check refuses, the marks of the new record are programmed.
use mathlib.Core.Path.{◌≡◌, refl, ap, ◌∙◌}
use mathlib.Core.Bool.{true, false}
use mathlib.Core.List.{List}
use Prim.Native.Nat.{ℕ}
use borrow.Author.Rules.{rules}
use Rattle.std.specs.Prelude.{is_ok}
use Rattle.flash.specs.Flash.{Unit4, run}
use Rattle.sector.proofs.Laws.{accepted_done, accepted_refused}
use Rattle.page.proofs.Checks.{call_refused, call_whole}
use Rattle.page.specs.Record.{Page, with_erased}
use Rattle.sector.specs.Answers.{Check, accepted}
use Rattle.call_erase.specs.Erase.{erase_checks, erase_plan, erase, erase_image}
use Rattle.call_erase.proofs.Laws.{EraseFits, erase_fits, plan_erased}
use Rattle.call_erase.proofs.erase_item.Goals as goal

pub returns-in_err-erase_refusal : goal.returns-in_err-erase_refusal
unfolding erase erase_image
returns-in_err-erase_refusal c =
    let checks : List Check = erase_checks c.args.image.now c.args.page.now c.args.index c.args.span in
    let refused : is_ok c.erase_refusal.result ≡ false = search rules in
    let same : c.from_residual.result ≡ c.erase_refusal.result = search rules in
    let all = call_refused checks c.args.page.now (with_erased c.args.page.now c.args.index c.args.span) c.args.image.now false
    (erase_plan c.args.page.now c.args.index c.args.span) (same ∙ c.erase_refusal.ensures) (accepted_refused checks c.erase_refusal.ensures refused) in
    record { answer = all.0; page = all.1; image = all.2 }

pub with_erased-requires : goal.with_erased-requires
with_erased-requires c =
    let checks : List Check = erase_checks c.args.image.now c.args.page.now c.args.index c.args.span in
    let done : is_ok c.erase_refusal.result ≡ true = search rules in
    let fits : EraseFits c.args.image.now c.args.page.now c.args.index c.args.span = erase_fits _ _ _ _ (accepted_done checks c.erase_refusal.ensures done) in
    (fits.fit, fits.spans, fits.written)

pub write_marks-requires : goal.write_marks-requires
write_marks-requires c =
    let checks : List Check = erase_checks c.args.image.now c.args.page.now c.args.index c.args.span in
    let done : is_ok c.erase_refusal.result ≡ true = search rules in
    let fits : EraseFits c.args.image.now c.args.page.now c.args.index c.args.span = erase_fits _ _ _ _ (accepted_done checks c.erase_refusal.ensures done) in
    (fits.whole, fits.some, fits.spans)

pub returns : goal.returns
unfolding erase erase_image
returns c =
    let image : List ℕ = c.args.image.now in
    let page : Page = c.args.page.now in
    let index = c.args.index in
    let span = c.args.span in
    let checks : List Check = erase_checks image page index span in
    let done : is_ok c.erase_refusal.result ≡ true = search rules in
    let accepts : accepted checks ≡ true = accepted_done checks c.erase_refusal.ensures done in
    let fits : EraseFits image page index span = erase_fits _ _ _ _ accepts in
    let planned = plan_erased page c.with_erased.result index span c.with_erased.ensures fits.spans in
    let all = call_whole checks page _ image (erase_plan page index span) accepts c.with_erased.ensures
    (c.write_marks.ensures.image ∙ ap (λ (plan : List Unit4). run plan image) planned) in
    record { answer = all.0; page = all.1; image = all.2 }
