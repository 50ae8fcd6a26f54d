-- `call_purge::zero_entries` meets its contract: the entries still to come, zeroed in what there is, are all of them zeroed in the image.
use Rattle.std.proofs.Common.{◌≡◌, ◌∙◌, ap, sym, ℕ, suc, ◌+◌, ◌-◌, arith}
use Rattle.flash.specs.Flash.{units, run}
use Rattle.call_purge.proofs.Laws.{run_zeros}
use Rattle.call_purge.proofs.zero_entries.Invariants.{zeros}
use Rattle.call_purge.proofs.zero_entries.Goals as goal

pub loop-i-preserved : goal.loop-i-preserved
loop-i-preserved c =
    let at = c.loop-i in
    let end : ℕ = c.args.index + c.args.span in
    let one : end - at.i ≡ suc (end - (at.i + 1)) = omega arith in
    run_zeros at.i (end - (at.i + 1)) at.image c.zero_entry.ensures ∙ ap (λ (n : ℕ). run (zeros at.i n) at.image) (sym one) ∙ at.invariant

pub returns : goal.returns
unfolding units run
returns c =
    let at = c.loop-i in
    let none : c.args.index + c.args.span - at.i ≡ 0 = omega arith in
    sym (ap (λ (n : ℕ). run (zeros at.i n) at.image) none) ∙ at.invariant
