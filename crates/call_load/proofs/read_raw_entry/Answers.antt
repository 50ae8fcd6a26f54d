-- `call_load::read_raw_entry` meets its contract: it refuses what `entry_checks` refuses, and else has the entry as it lies.
use Rattle.std.proofs.Common.{rules, ◌≡◌, [], true, ap}
use Rattle.std.specs.Prelude.{Ok, Err, is_ok}
use Rattle.call_load.specs.Load.{entry_checks, raw_entry}
use Rattle.call_load.proofs.Laws.{read_refused, read_passed}
use Rattle.call_load.proofs.read_raw_entry.Goals as goal

pub returns-in_err-entry_refusal : goal.returns-in_err-entry_refusal
unfolding raw_entry
returns-in_err-entry_refusal c =
    let same : c.from_residual.result ≡ Err c.in_err-entry_refusal.field-0.0 = search rules in
    read_refused (entry_checks c.args.image.now c.args.index) [] _ c.entry_refusal.ensures c.in_err-entry_refusal.was same

pub returns : goal.returns
unfolding raw_entry
returns c =
    let done : is_ok c.entry_refusal.result ≡ true = search rules in
    read_passed (entry_checks c.args.image.now c.args.index) [] _ c.entry_refusal.ensures done (ap Ok c.entry_at.ensures)
