-- `call_erase::with_erased` meets its contract: each field is what its own step ensures, and the entries erased are among those used.
use mathlib.Core.Path.{◌≡◌}
use Prim.Native.Nat.{◌≤◌}
use native.Mathlib.Omega.{arith}
use borrow.Author.Rules.{rules}
use lib.ListN.{length}
use Rattle.page.specs.Record.{with_erased}
use Rattle.page.proofs.Laws.{Fit, fit_clauses}
use Rattle.call_erase.proofs.Laws.{written_le}
use Rattle.call_erase.proofs.with_erased.Goals as goal

pub without-places-requires : goal.without-places-requires
without-places-requires c =
    let fit : Fit c.args.page.now = fit_clauses c.args.page.now c.requires.0 in
    omega arith

pub overflow_sub-new : goal.overflow_sub-new
overflow_sub-new c =
    let fit : Fit c.args.page.now = fit_clauses c.args.page.now c.requires.0 in
    omega (arith, written_le c.args.page.now.map c.args.index c.args.span (search rules) c.requires.1 c.requires.2)

pub overflow_add-new : goal.overflow_add-new
overflow_add-new c =
    let fit : Fit c.args.page.now = fit_clauses c.args.page.now c.requires.0 in
    omega (arith, written_le c.args.page.now.map c.args.index c.args.span (search rules) c.requires.1 c.requires.2)

pub returns : goal.returns
unfolding with_erased
returns c = rw (c.without-places.ensures.0, c.without-places.ensures.1, c.mark_range-new.ensures)
