-- The verdict at a Written entry, by cases: the entry is refused, an item is refused, or an item is kept; each with the rules that decided.
--
-- In order: the rules of the header, and where else they let it stand; an item whole in its bytes; the three cases, and the verdict in each.
-- What a CRC is plays no part: the rules stay shut.
use mathlib.Core.Path.{◌≡◌, refl, ◌∙◌}
use mathlib.Core.Bool.{Bool, true, false, ◌||◌, not}
use mathlib.Core.List.{List, [], ◌∷◌, ◌++◌}
use Rattle.std.specs.Prelude.{Option, Some, None}
use Prim.Native.Nat.{ℕ, zero, suc, ◌≤◌}
use native.Mathlib.Omega.{arith}
use lib.Dec.{eqb, ltb}
use lib.ListN.{length, take, length-append}
use lib.Seq.{take-append-le}
use borrow.Author.Tests.{eqb-false, ltb-false, le-ltb, not-false}
use Rattle.flash.specs.Flash.{all_ones}
use Rattle.sector.specs.declared.EntryMapState.{EntryMapState}
use Rattle.sector.specs.declared.EntryMapState.TheVariants.{Written}
use Rattle.sector.specs.Item.{known_type, crc_right, loads}
use Rattle.sector.specs.Layout.{span_of}
use Rattle.opening_reading.specs.Reading.{Reason, AllOnes, UnknownType, CrcWrong, SpanOffPage, WrongSpan, CoveredNotUsable, first_rule, covered, wrong_span, header_refusal, payload_refusal, usable, RefusedItem, Kept, item_verdict, verdict_at}

-- the states of some entries, and their bytes
abbrev pub States : Type 0
States = List EntryMapState

abbrev pub Entries : Type 0
Entries = List (List ℕ)

-- ---- the rules of the header

no_rule : (a b c d e f : Bool)
    → first_rule ((a, AllOnes) ∷ (b, UnknownType) ∷ (c, CrcWrong) ∷ (d || e, SpanOffPage) ∷ (f, WrongSpan) ∷ []) ≡ None
    → (a ≡ false) × (b ≡ false) × (c ≡ false) × (d ≡ false) × (e ≡ false) × (f ≡ false)
no_rule true b c d e f h = (cc, cc, cc, cc, cc, cc)
no_rule false true c d e f h = (cc, cc, cc, cc, cc, cc)
no_rule false false true d e f h = (cc, cc, cc, cc, cc, cc)
no_rule false false false true e f h = (cc, cc, cc, cc, cc, cc)
no_rule false false false false true f h = (cc, cc, cc, cc, cc, cc)
no_rule false false false false false true h = (cc, cc, cc, cc, cc, cc)
no_rule false false false false false false h = (refl, refl, refl, refl, refl, refl)

-- none of the rules holds of a header that none refuses
header_rules : (entry : List ℕ) (left : ℕ) → header_refusal entry left ≡ None
    → (all_ones entry ≡ false) × (not (known_type entry) ≡ false) × (not (crc_right entry) ≡ false)
    × (eqb (span_of entry) 0 ≡ false) × (ltb left (covered entry) ≡ false) × (wrong_span entry ≡ false)
unfolding header_refusal
header_rules entry left h =
    no_rule (all_ones entry) (not (known_type entry)) (not (crc_right entry)) (eqb (span_of entry) 0) (ltb left (covered entry)) (wrong_span entry) h

-- it loads
pub header_loads : (entry : List ℕ) (left : ℕ) → header_refusal entry left ≡ None → loads entry ≡ true
unfolding loads
header_loads entry left h =
    let rules = header_rules entry left h in
    rw (rules.0, not-false (known_type entry) rules.1, not-false (crc_right entry) rules.2)

-- it has a span
pub header_span : (entry : List ℕ) (left : ℕ) → header_refusal entry left ≡ None → 1 ≤ span_of entry
header_span entry left h = by (span_of entry) (eqb-false (span_of entry) 0 (header_rules entry left h).3)
  where
    by : (span : ℕ) → (span ≡ 0 → ⊥) → 1 ≤ span
    by zero f = absurd (f refl)
    by (suc n) f = omega arith

-- and the span is on the page
pub header_fits : (entry : List ℕ) (left : ℕ) → header_refusal entry left ≡ None → covered entry ≤ left
header_fits entry left h = ltb-false left (covered entry) (header_rules entry left h).4

header_same : (entry : List ℕ) (left other : ℕ) → covered entry ≤ left → covered entry ≤ other → header_refusal entry other ≡ header_refusal entry left
unfolding header_refusal
header_same entry left other h k = rw (le-ltb left (covered entry) h, le-ltb other (covered entry) k)

-- it stands wherever as many entries lie after it
pub header_elsewhere : (entry : List ℕ) (left other : ℕ) → header_refusal entry left ≡ None → covered entry ≤ other → header_refusal entry other ≡ None
header_elsewhere entry left other h k = header_same entry left other (header_fits entry left h) k ∙ h

-- ---- an item whole in its bytes

-- a header and the k entries that it covers, which no rule refuses by their bytes
pub record Whole (entry : List ℕ) (k : ℕ) (entries : Entries) : Type 0 where
  pub header : header_refusal entry (length entries) ≡ None
  pub span : covered entry ≡ k
  pub payload : payload_refusal entry (take k entries) ≡ None

pub whole_fits : {entry : List ℕ} {k : ℕ} {entries : Entries} → Whole entry k entries → k ≤ length entries
whole_fits {entry} {k} {entries} w = omega (arith, header_fits entry (length entries) w.header, w.span)

pub whole_span : {entry : List ℕ} {k : ℕ} {entries : Entries} → Whole entry k entries → span_of entry ≡ suc k
whole_span {entry} {k} {entries} w = omega (arith, header_span entry (length entries) w.header, w.span)

-- it is whole with the same covered entries, whatever lies after them
pub whole_elsewhere : {entry : List ℕ} {k : ℕ} {entries others : Entries} → Whole entry k entries → k ≤ length others
    → take k others ≡ take k entries → Whole entry k others
whole_elsewhere {entry} {k} {entries} {others} w h e =
    record {
      header = header_elsewhere entry (length entries) (length others) w.header (rw w.span h);
      span = w.span;
      payload = rw e w.payload;
    }

pub whole_append : {entry : List ℕ} {k : ℕ} {entries : Entries} (more : Entries) → Whole entry k entries → Whole entry k (entries ++ more)
whole_append {k = k} {entries} more w =
    whole_elsewhere w (omega (arith, whole_fits w, length-append entries more)) (take-append-le k entries more (whole_fits w))

pub whole_front : {entry : List ℕ} {k : ℕ} (entries more : Entries) → k ≤ length entries → Whole entry k (entries ++ more) → Whole entry k entries
whole_front {k = k} entries more h w = whole_elsewhere w h (rw take-append-le)

-- ---- the three cases

-- kept: whole, and no covered entry is Erased or Illegal
pub record Good (entry : List ℕ) (k : ℕ) (states : States) (entries : Entries) : Type 0 where
  pub whole : Whole entry k entries
  pub clear : usable k states ≡ true

-- a refused item: its header stands, and a rule of the payload or a covered entry's state refuses it
pub record Spoiled (reason : Reason) (entry : List ℕ) (k : ℕ) (states : States) (entries : Entries) : Type 0 where
  pub header : header_refusal entry (length entries) ≡ None
  pub span : covered entry ≡ k
  pub refused : item_verdict (payload_refusal entry (take k entries)) (usable k states) k ≡ RefusedItem reason k

pub spoiled_fits : {reason : Reason} {entry : List ℕ} {k : ℕ} {states : States} {entries : Entries}
    → Spoiled reason entry k states entries → k ≤ length entries
spoiled_fits {entry = entry} {entries = entries} s = omega (arith, header_fits entry (length entries) s.header, s.span)

pub data Decided (entry : List ℕ) (states : States) (entries : Entries) : Type 0 where
  refused_entry : (reason : Reason) → header_refusal entry (length entries) ≡ Some reason → Decided entry states entries
  refused_item : (reason : Reason) (k : ℕ) → Spoiled reason entry k states entries → Decided entry states entries
  kept_item : (k : ℕ) → Good entry k states entries → Decided entry states entries

pub decided : (entry : List ℕ) (states : States) (entries : Entries) → Decided entry states entries
decided entry states entries = by_header (header_refusal entry (length entries)) refl
  where
    by_payload : header_refusal entry (length entries) ≡ None → (payload : Option Reason) → payload_refusal entry (take (covered entry) entries) ≡ payload
        → (clear : Bool) → usable (covered entry) states ≡ clear → Decided entry states entries
    by_payload h None p true c = kept_item (covered entry) (record { whole = record { header = h; span = refl; payload = p }; clear = c })
    by_payload h None p false c = refused_item CoveredNotUsable (covered entry) (record { header = h; span = refl; refused = rw (p, c) })
    by_payload h (Some reason) p clear c = refused_item reason (covered entry) (record { header = h; span = refl; refused = rw p })

    by_header : (header : Option Reason) → header_refusal entry (length entries) ≡ header → Decided entry states entries
    by_header None h = by_payload h (payload_refusal entry (take (covered entry) entries)) refl (usable (covered entry) states) refl
    by_header (Some reason) h = refused_entry reason h

-- ---- the verdict in each

pub verdict_refused_item : {reason : Reason} {entry : List ℕ} {k : ℕ} {states : States} {entries : Entries}
    → Spoiled reason entry k states entries → verdict_at Written entry states entries ≡ RefusedItem reason k
verdict_refused_item s = rw (s.header, s.span) s.refused

pub verdict_kept_item : {entry : List ℕ} {k : ℕ} {states : States} {entries : Entries}
    → Good entry k states entries → verdict_at Written entry states entries ≡ Kept k
verdict_kept_item g = rw (g.whole.header, g.whole.span, g.whole.payload, g.clear)
