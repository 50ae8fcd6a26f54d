-- `call_erase::without` meets its contract: after k turns the list holds what is kept of the first k places.
use mathlib.Core.Path.{◌≡◌, sym, ap, ◌∙◌}
use Prim.Native.Nat.{◌+◌, ◌-◌, ◌<◌}
use native.Mathlib.Omega.{arith}
use borrow.Author.Rules.{rules}
use lib.ListN.{length, take, get_or}
use Rattle.page.specs.Record.{no_item, without, padded}
use Rattle.call_erase.proofs.Laws.{without_same, without_other, padded_next}
use Rattle.call_erase.proofs.without.Goals as goal
use Rattle.call_erase.proofs.without.Goals.{then-place-index, else-place-index}

pub loop-k-init : goal.loop-k-init
unfolding without
loop-k-init c = search rules

pub loop-k-preserved : goal.loop-k-preserved
loop-k-preserved c =
    let args = c.args in
    let at = c.loop-k in
    let inside : at.k < length args.list = omega arith in
    elim c.if-place-index.branch [
      | then-place-index w ↦
          let kept = without_other args.index args.list at.k inside w.if-place-index.true in
          let one = padded_next (without args.index (take at.k args.list)) (get_or args.list at.k no_item) at.invariant.2 at.invariant.3 (omega arith) in
          let n : c.if-place-index.n ≡ at.n + 1 = w.n-is in (
            omega arith,
            omega arith,
            n ∙ one.0 ∙ ap length (sym kept),
            w.kept-is ∙ one.1 ∙ ap padded (sym kept),
          )
      | else-place-index w ↦
          let kept = without_same args.index args.list at.k inside w.if-place-index.false in
          let n : c.if-place-index.n ≡ at.n = w.n-is in (
            omega arith,
            omega arith,
            n ∙ at.invariant.2 ∙ ap length (sym kept),
            w.kept-is ∙ at.invariant.3 ∙ ap padded (sym kept),
          )
    ]

pub returns : goal.returns
returns c =
    let at = c.loop-k in
    let all : at.k ≡ c.args.len = omega arith in
    rw (← all) (at.invariant.2, at.invariant.3)
