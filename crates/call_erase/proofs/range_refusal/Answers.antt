-- `call_erase::range_refusal` meets its contract: each `return` is the first check that refuses, or none.
use mathlib.Core.Path.{◌≡◌, sym, ◌∙◌}
use mathlib.Core.Bool.{false, ◌||◌}
use Prim.Native.Nat.{◌+◌}
use native.Mathlib.Omega.{arith}
use borrow.Author.Tests.{eq-eqb, ne_eqb, lt-ltb, le-ltb}
use lib.Dec.{eqb, ltb}
use Rattle.sector.specs.Layout.{entries_per_page}
use Rattle.call_erase.proofs.range_refusal.Goals as goal

pub returns-then-span-eq0 : goal.returns-then-span-eq0
returns-then-span-eq0 c =
    rw (eq-eqb _ _ c.if-span-eq0.true)

pub returns-then-index-gt-ENTRIES_PER_PAGE : goal.returns-then-index-gt-ENTRIES_PER_PAGE
returns-then-index-gt-ENTRIES_PER_PAGE c =
    let args = c.args in
    rw (ne_eqb _ _ c.if-span-eq0.false, lt-ltb entries_per_page (args.index + args.span) (omega arith))

pub returns-then-span-index : goal.returns-then-span-index
returns-then-span-index c =
    let args = c.args in
    rw (ne_eqb _ _ c.if-span-eq0.false, lt-ltb entries_per_page (args.index + args.span) (omega arith))

pub returns-then-not-all_written : goal.returns-then-not-all_written
returns-then-not-all_written c =
    let spans : let args = c.args in (eqb args.span 0 || ltb entries_per_page (args.index + args.span)) ≡ false = let args = c.args in
    rw (ne_eqb _ _ c.if-span-eq0.false, le-ltb entries_per_page (args.index + args.span) (omega arith)) in
    rw (spans, sym c.all_written.ensures ∙ c.if-not-all_written.true)

pub returns : goal.returns
returns c =
    let spans : let args = c.args in (eqb args.span 0 || ltb entries_per_page (args.index + args.span)) ≡ false = let args = c.args in
    rw (ne_eqb _ _ c.if-span-eq0.false, le-ltb entries_per_page (args.index + args.span) (omega arith)) in
    rw (spans, sym c.all_written.ensures ∙ c.if-not-all_written.false)
