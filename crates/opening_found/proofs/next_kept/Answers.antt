-- `opening_found::next_kept` meets its contract: the first item that the walk tells of is the next one, and what it passes by is none.
use Rattle.std.proofs.Common.{◌≡◌, ℕ, refl, sym, ◌∙◌, arith}
use Rattle.opening_reading.specs.declared.Verdict.{Verdict}
use Rattle.opening_reading.specs.declared.Verdict.TheVariants.{NotAnItem, RefusedEntry, RefusedItem, Kept}
use Rattle.opening_found.proofs.Going.{Passed, no_item, bad_entry, bad_item, next_past, tells_kept, tells_passed}
use Rattle.opening_found.proofs.next_kept.Goals as goal
use Rattle.opening_found.proofs.next_kept.Goals.{In-Kept}

-- past the test nothing is kept
passed_by : (v : Verdict) → ((k : ℕ) → v ≡ Kept k → ⊥) → Passed v
passed_by NotAnItem other = no_item
passed_by (RefusedEntry reason) other = bad_entry reason
passed_by (RefusedItem reason k) other = bad_item reason k
passed_by (Kept k) other = absurd (other k refl)

pub overflow_add-result : goal.overflow_add-result
overflow_add-result c =
    let kept = tells_kept (omega arith) c.loop-index.invariant.image c.loop-index.invariant.map c.in-Some.ensures.steps c.in-Kept.covered c.in-Kept.is in
    let fits = kept.0 in
    omega arith

pub returns-in-Kept : goal.returns-in-Kept
returns-in-Kept c =
    let kept = tells_kept (omega arith) c.loop-index.invariant.image c.loop-index.invariant.map c.in-Some.ensures.steps c.in-Kept.covered c.in-Kept.is in
    sym kept.1 ∙ c.loop-index.invariant.next

pub loop-index-preserved : goal.loop-index-preserved
loop-index-preserved c =
    let at = c.loop-index.invariant in
    let told = c.in-Some.ensures.steps in
    let passed = passed_by c.in-Some.verdict c.in_default.not-Kept in
    record {
      can = rw told.image at.can;
      finite = tt;
      image = told.image ∙ at.image;
      map = told.map ∙ at.map;
      next = sym (tells_passed (omega arith) at.image at.map told passed) ∙ at.next;
    }

pub returns : goal.returns
returns c =
    let at = c.loop-index.invariant in
    sym (next_past c.args.image.now c.args.map c.loop-index.index-iterator.index (omega arith) c.in-None.ensures.steps) ∙ at.next
