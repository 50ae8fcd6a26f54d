-- `page_write::with_item` meets its contract: each field is what its own step leaves.
use mathlib.Core.Path.{◌≡◌, refl, sym, ap, ◌∙◌}
use Prim.Native.Nat.{◌+◌, ◌≤◌}
use native.Mathlib.Omega.{arith}
use borrow.Author.Tests.{eq-eqb, ne_eqb}
use Rattle.page.specs.Record.{Page, next_free, with_item}
use Rattle.page.proofs.Laws.{fit_clauses}
use Rattle.page_write.proofs.with_item.Goals.{then-start-span-eq-ENTRIES_PER_PAGE, else-start-span-eq-ENTRIES_PER_PAGE}
use Rattle.page_write.proofs.with_item.Goals as goal

pub bounds-new-page : goal.bounds-new-page
bounds-new-page c = omega (arith, (fit_clauses c.args.page.now c.requires.0).len_fits)

pub overflow_add-new-then-namespace-ne0 : goal.overflow_add-new-then-namespace-ne0
overflow_add-new-then-namespace-ne0 c =
    let len : c.if-start-span-eq-ENTRIES_PER_PAGE.new.len ≡ c.args.page.now.len =
    elim c.if-start-span-eq-ENTRIES_PER_PAGE.branch [
      | then-start-span-eq-ENTRIES_PER_PAGE w ↦ ap (λ (page : Page). page.len) w.new-is
      | else-start-span-eq-ENTRIES_PER_PAGE w ↦ ap (λ (page : Page). page.len) w.new-is
    ] in
    omega (arith, (fit_clauses c.args.page.now c.requires.0).len_fits)

pub returns-then-namespace-ne0 : goal.returns-then-namespace-ne0
unfolding with_item
returns-then-namespace-ne0 c =
    elim c.if-start-span-eq-ENTRIES_PER_PAGE.branch [
      | then-start-span-eq-ENTRIES_PER_PAGE w ↦
          rw (w.new-is, ne_eqb _ 0 c.if-namespace-ne0.true, ← c.get_next_free_entry-start.ensures, eq-eqb _ 126 w.if-start-span-eq-ENTRIES_PER_PAGE.true, c.mark_range-new.ensures)
      | else-start-span-eq-ENTRIES_PER_PAGE w ↦
          rw (w.new-is, ne_eqb _ 0 c.if-namespace-ne0.true, ← c.get_next_free_entry-start.ensures, ne_eqb _ 126 w.if-start-span-eq-ENTRIES_PER_PAGE.false, c.mark_range-new.ensures)
    ]

pub returns-else-namespace-ne0 : goal.returns-else-namespace-ne0
unfolding with_item
returns-else-namespace-ne0 c =
    elim c.if-start-span-eq-ENTRIES_PER_PAGE.branch [
      | then-start-span-eq-ENTRIES_PER_PAGE w ↦
          rw (w.new-is, eq-eqb _ 0 c.if-namespace-ne0.false, ← c.get_next_free_entry-start.ensures, eq-eqb _ 126 w.if-start-span-eq-ENTRIES_PER_PAGE.true, c.mark_range-new.ensures)
      | else-start-span-eq-ENTRIES_PER_PAGE w ↦
          rw (w.new-is, eq-eqb _ 0 c.if-namespace-ne0.false, ← c.get_next_free_entry-start.ensures, ne_eqb _ 126 w.if-start-span-eq-ENTRIES_PER_PAGE.false, c.mark_range-new.ensures)
    ]
