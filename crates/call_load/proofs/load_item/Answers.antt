-- `call_load::load_item` meets its contract: it refuses what `entry_checks` refuses, then what does not load, and else has the item.
use Rattle.std.proofs.Common.{rules, ◌≡◌, [], ◌∷◌, true, not, ap, sym, ◌∙◌}
use Rattle.std.specs.Prelude.{Ok, Err, is_ok}
use Rattle.sector.specs.Item.{loads}
use Rattle.sector.specs.Layout.{entry_at}
use Rattle.sector.specs.declared.Refusal.TheVariants.{KeyNotFound}
use Rattle.call_load.specs.Load.{entry_checks, load_item}
use Rattle.call_load.proofs.Laws.{read_refused, read_passed}
use Rattle.call_load.proofs.load_item.Goals as goal

pub returns-in_err-entry_refusal : goal.returns-in_err-entry_refusal
unfolding load_item
returns-in_err-entry_refusal c =
    let image = c.args.image.now in
    let index = c.args.index in
    let same : c.from_residual.result ≡ Err c.in_err-entry_refusal.field-0.0 = search rules in
    read_refused (entry_checks image index) ((not (loads (entry_at image index)), KeyNotFound) ∷ []) _
    c.entry_refusal.ensures c.in_err-entry_refusal.was same

pub returns-then-not-loads_at : goal.returns-then-not-loads_at
unfolding load_item
returns-then-not-loads_at c =
    let image = c.args.image.now in
    let index = c.args.index in
    let done : is_ok c.entry_refusal.result ≡ true = search rules in
    read_passed (entry_checks image index) ((not (loads (entry_at image index)), KeyNotFound) ∷ []) _ c.entry_refusal.ensures done
    (rw (sym c.loads_at.ensures ∙ c.if-not-loads_at.true))

pub returns : goal.returns
unfolding load_item
returns c =
    let image = c.args.image.now in
    let index = c.args.index in
    let done : is_ok c.entry_refusal.result ≡ true = search rules in
    read_passed (entry_checks image index) ((not (loads (entry_at image index)), KeyNotFound) ∷ []) _ c.entry_refusal.ensures done
    (rw (sym c.loads_at.ensures ∙ c.if-not-loads_at.false) (ap Ok c.entry_at-item.ensures))
