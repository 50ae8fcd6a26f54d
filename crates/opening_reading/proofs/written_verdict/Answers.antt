-- `opening_reading::written_verdict` meets its contract: the header's rules are asked first, then the payload's, then the covered entries.
use Rattle.std.proofs.Common.{◌≡◌, sym, ◌∙◌, Option, None, List, ℕ, ◌+◌, ◌-◌, ◌<◌, ◌≤◌, length, drop, arith}
use Rattle.sector.specs.Layout.{entry_at, entries_of, span_of}
use Rattle.sector.specs.declared.EntryMapState.TheVariants.{Written}
use Rattle.sector.specs.Map.{states_of}
use Rattle.opening_reading.specs.Reading.{Reason, covered, header_refusal, item_verdict, verdict_at}
use Rattle.opening_reading.proofs.Entries.{entries_left}
use Rattle.opening_reading.proofs.Verdicts.{header_span, header_fits}
use Rattle.opening_reading.proofs.written_verdict.Goals as goal
use Rattle.opening_reading.proofs.written_verdict.Goals.{In_default, After-all_usable}

-- the header's rules, of the entries that are left
header : (image : List ℕ) (index : ℕ) {entry : List ℕ} {refusal : Option Reason} → entry ≡ entry_at image index → refusal ≡ header_refusal entry (125 - index)
    → header_refusal (entry_at image index) (length (drop (index + 1) (entries_of image))) ≡ refusal
header image index there made = rw (entries_left image index, ← there) (sym made)

-- where none refuses it, it has a span, which the page holds
spanned : (c : In_default) → (0 < span_of c.entry_at-entry.result) × (c.args.index + span_of c.entry_at-entry.result ≤ 126)
spanned c =
    let stands = sym c.header_refusal.ensures ∙ c.in_default.is in
    let some = header_span _ _ stands in
    let fits = header_fits _ _ stands in
    (some, omega arith)

-- where no rule of its payload refuses it either, the covered entries decide
whole : (c : After-all_usable)
    → verdict_at Written (entry_at c.args.image.now c.args.index) (drop (c.args.index + 1) (states_of c.args.map)) (drop (c.args.index + 1) (entries_of c.args.image.now))
    ≡ item_verdict None c.all_usable.result (covered c.entry_at-entry.result)
whole c =
    rw (
      header _ _ c.entry_at-entry.ensures c.header_refusal.ensures,
      c.in_default.is,
      ← c.entry_at-entry.ensures,
      ← c.payload_refusal.ensures,
      c.in_default-payload_refusal.is,
      ← c.all_usable.ensures,
    )

pub returns-in-Some : goal.returns-in-Some
returns-in-Some c = rw (header _ _ c.entry_at-entry.ensures c.header_refusal.ensures, c.in-Some.is)

pub overflow_sub-covered : goal.overflow_sub-covered
overflow_sub-covered c = (spanned c).0

pub payload_refusal-requires : goal.payload_refusal-requires
payload_refusal-requires c = let spans = spanned c in (omega arith, spans.0, spans.1)

pub returns-in-Some-payload_refusal : goal.returns-in-Some-payload_refusal
returns-in-Some-payload_refusal c =
    rw (
      header _ _ c.entry_at-entry.ensures c.header_refusal.ensures,
      c.in_default.is,
      ← c.entry_at-entry.ensures,
      ← c.payload_refusal.ensures,
      c.in-Some-payload_refusal.is,
    )

pub all_usable-requires : goal.all_usable-requires
all_usable-requires c = let spans = spanned (goal.at.all_usable-requires c).In_default in omega arith

pub returns-then-not-all_usable : goal.returns-then-not-all_usable
returns-then-not-all_usable c = rw (whole (goal.at.returns-then-not-all_usable c).After-all_usable, c.if-not-all_usable.true)

pub returns : goal.returns
returns c = rw (whole (goal.at.returns c).After-all_usable, c.if-not-all_usable.false)
