-- The reading (01, 'Opening'): what a page's states and entries say, before opening marks anything.
--
-- In order: the rules, one definition each; the verdict at an entry, with the rule that decided; the walk; the items kept;
-- the free tail; the states that opening leaves.
-- States and entries are two lists side by side: opening changes states alone.
-- Verdict and Reason are the code's own enums.
use Rattle.std.specs.Prelude.{Bool, true, false, ◌&&◌, ◌||◌, not, cond, Option, Some, None, List, [], ◌∷◌, ◌++◌, ℕ, zero, suc, ◌-◌, ◌*◌, eqb, ltb, length, take}
use Rattle.crc.specs.Crc.{crc32}
use Rattle.flash.specs.Flash.{all_ones}
use Rattle.sector.specs.declared.EntryMapState.{EntryMapState}
use Rattle.sector.specs.declared.EntryMapState.TheVariants.{Empty, Written, Erased, Illegal}
use Rattle.sector.specs.Item.{crc_start, known_type, crc_right}
use Rattle.sector.specs.Layout.{entry_size, type_byte_of, span_of, size_of, stored_payload_crc}
use Rattle.sector.specs.Types.{item_type, has_payload}
pub use Rattle.opening_reading.specs.declared.Reason.{Reason}
pub use Rattle.opening_reading.specs.declared.Reason.TheVariants.{AllOnes, UnknownType, CrcWrong, SpanOffPage, WrongSpan, SizeTooBig, PayloadCrcWrong, CoveredNotUsable}
pub use Rattle.opening_reading.specs.declared.Verdict.{Verdict}
pub use Rattle.opening_reading.specs.declared.Verdict.TheVariants.{NotAnItem, RefusedEntry, RefusedItem, Kept}

-- ---- the rules

-- the first rule that applies
abbrev pub first_rule : List (Bool × Reason) → Option Reason
first_rule [] = None
first_rule (rule ∷ rules) = cond rule.0 (Some rule.1) (first_rule rules)

-- Sized, Blob or BlobData
abbrev pub is_payload : List ℕ → Bool
is_payload entry = has_payload (item_type (type_byte_of entry))

-- entries after the header
abbrev pub covered : List ℕ → ℕ
covered entry = span_of entry - 1

-- span is 0, or leaves the page, of which `left` entries lie after this one
abbrev pub span_off_page : List ℕ → ℕ → Bool
span_off_page entry left = eqb (span_of entry) 0 || ltb left (covered entry)

-- span is not 1 on a type without payload
abbrev pub wrong_span : List ℕ → Bool
wrong_span entry = not (is_payload entry) && not (eqb (span_of entry) 1)

-- why no item begins here: it does not load (all 0xFF, its type unknown, or its CRC wrong), or its span cannot be
unfoldable pub header_refusal : List ℕ → ℕ → Option Reason
header_refusal entry left =
    first_rule
    ((all_ones entry, AllOnes)
    ∷ (not (known_type entry), UnknownType)
    ∷ (not (crc_right entry), CrcWrong)
    ∷ (span_off_page entry left, SpanOffPage)
    ∷ (wrong_span entry, WrongSpan)
    ∷ [])

-- the bytes of entries, one after the other
abbrev pub joined : List (List ℕ) → List ℕ
joined [] = []
joined (entry ∷ entries) = entry ++ joined entries

-- size over 32 * (span - 1)
abbrev pub size_too_big : List ℕ → Bool
size_too_big entry = ltb (entry_size * covered entry) (size_of entry)

-- the CRC of the payload in the covered entries is not the header's
abbrev pub payload_crc_wrong : List ℕ → List (List ℕ) → Bool
payload_crc_wrong entry entries =
    not (eqb (crc32 crc_start (take (size_of entry) (joined entries))) (stored_payload_crc entry))

-- why a payload is refused, by its bytes; a type without payload has none to refuse
unfoldable pub payload_refusal : List ℕ → List (List ℕ) → Option Reason
payload_refusal entry entries =
    cond (is_payload entry)
    (first_rule ((size_too_big entry, SizeTooBig) ∷ (payload_crc_wrong entry entries, PayloadCrcWrong) ∷ []))
    None

-- neither Erased nor Illegal
abbrev pub is_usable : EntryMapState → Bool
is_usable Empty = true
is_usable Written = true
is_usable Erased = false
is_usable Illegal = false

-- none of the next k entries is Erased or Illegal
abbrev pub usable : ℕ → List EntryMapState → Bool
usable zero states = true
usable (suc k) [] = true
usable (suc k) (s ∷ states) = is_usable s && usable k states

-- ---- the verdict

abbrev pub item_verdict : Option Reason → Bool → ℕ → Verdict
item_verdict (Some reason) all_usable k = RefusedItem reason k
item_verdict None true k = Kept k
item_verdict None false k = RefusedItem CoveredNotUsable k

abbrev pub header_verdict : Option Reason → List ℕ → List EntryMapState → List (List ℕ) → Verdict
header_verdict (Some reason) entry states entries = RefusedEntry reason
header_verdict None entry states entries =
    item_verdict (payload_refusal entry (take (covered entry) entries)) (usable (covered entry) states) (covered entry)

-- by the entry's state and bytes, and those of the entries after it
abbrev pub verdict_at : EntryMapState → List ℕ → List EntryMapState → List (List ℕ) → Verdict
verdict_at Empty entry states entries = NotAnItem
verdict_at Written entry states entries = header_verdict (header_refusal entry (length entries)) entry states entries
verdict_at Erased entry states entries = NotAnItem
verdict_at Illegal entry states entries = NotAnItem

-- ---- the walk

-- entries that the walk steps over after this one
abbrev pub steps_over : Verdict → ℕ
steps_over NotAnItem = 0
steps_over (RefusedEntry reason) = 0
steps_over (RefusedItem reason k) = k
steps_over (Kept k) = k

-- the entry's own mark
abbrev pub mark_of : EntryMapState → Verdict → EntryMapState
mark_of s NotAnItem = s
mark_of s (RefusedEntry reason) = Erased
mark_of s (RefusedItem reason k) = Erased
mark_of s (Kept k) = Written

-- the mark of the entries stepped over
abbrev pub mark_behind : Verdict → EntryMapState
mark_behind NotAnItem = Erased
mark_behind (RefusedEntry reason) = Erased
mark_behind (RefusedItem reason k) = Erased
mark_behind (Kept k) = Written

-- k entries more are stepped over, and get the mark
abbrev pub walk : ℕ → EntryMapState → List EntryMapState → List (List ℕ) → List EntryMapState
walk k mark [] entries = []
walk k mark (s ∷ states) [] = s ∷ states
walk zero mark (s ∷ states) (entry ∷ entries) =
    mark_of s (verdict_at s entry states entries)
    ∷ walk (steps_over (verdict_at s entry states entries)) (mark_behind (verdict_at s entry states entries)) states entries
walk (suc k) mark (s ∷ states) (entry ∷ entries) = mark ∷ walk k mark states entries

-- ---- the items kept

-- an index, and the bytes of the header entry and of the entries that it covers
pub data Item : Type 0 where
  item : ℕ → List (List ℕ) → Item

abbrev pub with_kept : Verdict → ℕ → List ℕ → List (List ℕ) → List Item → List Item
with_kept NotAnItem i entry entries items = items
with_kept (RefusedEntry reason) i entry entries items = items
with_kept (RefusedItem reason k) i entry entries items = items
with_kept (Kept k) i entry entries items = item i (entry ∷ take k entries) ∷ items

-- by rising index from i on; k entries more are stepped over
abbrev pub kept_from : ℕ → ℕ → List EntryMapState → List (List ℕ) → List Item
kept_from k i [] entries = []
kept_from k i (s ∷ states) [] = []
kept_from zero i (s ∷ states) (entry ∷ entries) =
    with_kept (verdict_at s entry states entries) i entry entries
    (kept_from (steps_over (verdict_at s entry states entries)) (suc i) states entries)
kept_from (suc k) i (s ∷ states) (entry ∷ entries) = kept_from k (suc i) states entries

-- ---- the free tail

abbrev pub is_empty : EntryMapState → Bool
is_empty Empty = true
is_empty Written = false
is_empty Erased = false
is_empty Illegal = false

-- all that is left is Empty and all 0xFF
abbrev pub is_free_tail : List EntryMapState → List (List ℕ) → Bool
is_free_tail [] entries = true
is_free_tail (s ∷ states) [] = is_empty s && is_free_tail states []
is_free_tail (s ∷ states) (entry ∷ entries) = is_empty s && (all_ones entry && is_free_tail states entries)

-- before the free tail Empty and Illegal become Erased
abbrev pub shut : EntryMapState → EntryMapState
shut Empty = Erased
shut Written = Written
shut Erased = Erased
shut Illegal = Erased

abbrev pub shut_before_tail : List EntryMapState → List (List ℕ) → List EntryMapState
shut_before_tail [] entries = []
shut_before_tail (s ∷ states) [] = s ∷ states
shut_before_tail (s ∷ states) (entry ∷ entries) =
    cond (is_free_tail (s ∷ states) (entry ∷ entries)) s (shut s) ∷ shut_before_tail states entries

-- ---- what opening leaves of the states
unfoldable pub opened_states : List EntryMapState → List (List ℕ) → List EntryMapState
opened_states states entries = shut_before_tail (walk zero Erased states entries) entries
