-- `plan::header_record` meets its contract: each field is read where its definition says, and the counts fit a byte.
use Rattle.std.proofs.Common.{◌≡◌, sym, ap, ◌∙◌, List, ℕ, ◌≤◌, ◌-◌, length, take, replicate, arith}
use Rattle.std.proofs.Math.ListN.{length-append, length-replicate, length-take}
use Rattle.std.proofs.Math.Seq.{length-take-le}
use Rattle.page.specs.declared.Listed.{Listed}
use Rattle.page.specs.Record.{padded, no_item}
use Rattle.sector.specs.declared.Statistics.{Statistics}
use Rattle.sector.specs.Header.{state_of_word}
use Rattle.sector.specs.Map.{statistics}
use Rattle.sector.proofs.Laws.{statistics_sum}
use Rattle.opening.specs.Steps.{header_record}
use Rattle.opening.proofs.plan.header_record.Goals as goal

-- the counts are of 126 entries
counted : (map : List ℕ) (counts : Statistics) → length map ≡ 32 → counts ≡ statistics map → (counts.written ≤ 126) × (counts.erased ≤ 126)
counted map counts long made =
    let sum = rw (← made) at (statistics_sum map long) in
    (omega (arith, sum), omega (arith, sum))

-- a listing has all its places
whole : (list : List Listed) (len : ℕ) → len ≤ 126 → list ≡ padded (take len list) → length list ≡ 126
whole list len fits made =
    let used = take len list in
    let rest = 126 - length used in
    ap length made ∙ omega (arith, length-append used (replicate rest no_item), length-replicate rest no_item, length-take len list)

pub overflow_cast-result : goal.overflow_cast-result
overflow_cast-result c =
    let counts = counted c.args.map c.get_entry_statistics-statistics.result (omega arith) c.get_entry_statistics-statistics.ensures in
    omega (arith, counts.0)

pub overflow_cast-result-2 : goal.overflow_cast-result-2
overflow_cast-result-2 c =
    let counts = counted c.args.map c.get_entry_statistics-statistics.result (omega arith) c.get_entry_statistics-statistics.ensures in
    omega (arith, counts.1)

pub returns : goal.returns
unfolding header_record statistics
returns c =
    let inside = c.listing.inside in
    let all : length inside.list ≡ 126 = whole inside.list inside.len c.listing.invariant.0 c.listing.invariant.1 in
    let len : inside.len ≡ length c.args.listing = sym (length-take-le inside.len inside.list (omega arith)) ∙ ap length c.listing.view_is in
    rw (
      c.state_of_word-state.ensures ∙ ap state_of_word c.number_at.ensures,
      c.number_at-2.ensures,
      c.number_at-3.ensures,
      c.get_entry_statistics-statistics.ensures,
      len,
      c.listing.invariant.1 ∙ ap padded c.listing.view_is,
    )
