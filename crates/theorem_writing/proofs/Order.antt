-- Each write of a call is units of four bytes that rise from its first place up to its last, so a byte outside them all is not altered.
--
-- In order: units that rise; the writes of each call; a byte that no write reaches.
use mathlib.Core.Path.{◌≡◌, refl, sym, ap, ◌∙◌}
use mathlib.Core.Bool.{Bool, true, false, ◌||◌, cond, and-eq-true_iff}
use mathlib.Core.List.{List, [], ◌∷◌, ◌++◌, append-nil}
use mathlib.Core.Logic.{◌⊎◌, inl, inr}
use Prim.Native.Nat.{ℕ, zero, suc, ◌+◌, ◌-◌, ◌*◌, ◌/◌, ◌≤◌, ◌<◌}
use native.Mathlib.Nat.{add-zero}
use native.Mathlib.Omega.{arith}
use lib.Dec.{eqb, ltb, leb}
use lib.ListN.{length, take, drop, get_or, replicate, length-take, length-replicate}
use lib.Seq.{get_or-take, get_or-drop}
use borrow.Author.Tests.{ltb-true, leb-true, le-leb, le-ltb, eqb-true}
use Rattle.flash.specs.Flash.{Unit4, unit, units, run, every}
use Rattle.flash.proofs.Laws.{Rising, rising_nil, rising_cons, rising_units, length-units_le, Outside, outside_nil, outside_cons, outside_append, take_drop_run}
use Rattle.page.specs.Record.{Page, next_free}
use Rattle.page.specs.Writing.{bad_image, full_units, item_plan}
use Rattle.sector.specs.declared.EntryMapState.TheVariants.{Written, Erased}
use Rattle.sector.specs.declared.PageState.TheVariants.{Full}
use Rattle.sector.specs.Answers.{accepted}
use Rattle.sector.specs.Header.{header_bytes, state_bytes}
use Rattle.sector.specs.Item.{sized_data}
use Rattle.sector.specs.Layout.{map_offset, entry_address, entry_at, entries_of, span_of, field}
use Rattle.sector.specs.Map.{states_of, mark_range, map_units}
use Rattle.sector.proofs.Laws.{length-item_bytes, length-sized_data}
use Rattle.call_page_state.specs.Calls.{initialise_plan, mark_full_plan}
use Rattle.call_append.specs.Append.{single_bytes, single_plan, span_for, variable_header, variable_plan}
use Rattle.call_copy.specs.Copy.{copied_bytes, copy_plan}
use Rattle.call_erase.specs.Erase.{erase_plan}
use Rattle.call_purge.specs.Purge.{held_span, purge_plan, purge_image}
use Rattle.call_purge_namespace.specs.PurgeNamespace.{to_zero, zero_units, purge_namespace_plan}
use Rattle.theorem_writing.specs.Promises.{PutRequest, single, variable, copied, initialising, marking_full, putting, erasing, purging, plan_of, formed, span_of_new, Write, rises, in_order, marking, entry_units, item_writes, zero_writes, units_of, WritesInOrder, outside, PurgeInOrder, PurgesItsEntries, PurgesNothingPast}

-- ---- units that rise

-- none
rises_nil : (from to : ℕ) → rises from to [] ≡ true
unfolding rises
rises_nil from to = refl

-- the four tests of a unit, and what is left
rises_cons : (from to address : ℕ) (bytes : List ℕ) (plan : List Unit4) → from ≤ address → address + 4 ≤ to → length bytes ≡ 4
    → rises (address + 4) to plan ≡ true → rises from to (unit address bytes ∷ plan) ≡ true
unfolding rises
rises_cons from to address bytes plan l u f r = rw (le-leb from address l, le-leb (address + 4) to u, f) r

rises_rising : {from : ℕ} {plan : List Unit4} (to : ℕ) → Rising from plan → from + 4 * length plan ≤ to → rises from to plan ≡ true
unfolding rises
rises_rising to rising_nil h = refl
rises_rising to (rising_cons address a b c d {plan} r) h =
    rises_cons address to address (a ∷ b ∷ c ∷ d ∷ []) plan (omega arith) (omega arith) refl (rises_rising to r (omega arith))

-- a write of bytes that end in time
rises_units : (address : ℕ) (bytes : List ℕ) (to : ℕ) → address + 4 * ((length bytes + 3) / 4) ≤ to → rises address to (units address bytes) ≡ true
rises_units address bytes to h = rises_rising to (rising_units address bytes) (omega (arith, length-units_le address bytes))

record Tests (from to address : ℕ) (bytes : List ℕ) (plan : List Unit4) : Type 0 where
  lower : from ≤ address
  upper : address + 4 ≤ to
  four : length bytes ≡ 4
  rest : rises (address + 4) to plan ≡ true

rises_tests : (from to address : ℕ) (bytes : List ℕ) (plan : List Unit4) → rises from to (unit address bytes ∷ plan) ≡ true → Tests from to address bytes plan
unfolding rises
rises_tests from to address bytes plan h =
    let low = (and-eq-true_iff (leb from address) _).0 h in
    let up = (and-eq-true_iff (leb (address + 4) to) _).0 low.1 in
    let four = (and-eq-true_iff (eqb (length bytes) 4) _).0 up.1 in
    record {
      lower = leb-true from address low.0;
      upper = leb-true (address + 4) to up.0;
      four = eqb-true (length bytes) 4 four.0;
      rest = four.1;
    }

-- from a lower place on
rises_lower : (lower from to : ℕ) (plan : List Unit4) → lower ≤ from → rises from to plan ≡ true → rises lower to plan ≡ true
unfolding rises
rises_lower lower from to [] l h = refl
rises_lower lower from to (unit address bytes ∷ plan) l h =
    let t = rises_tests from to address bytes plan h in
    rises_cons lower to address bytes plan (omega arith) t.upper t.four t.rest

-- one write, and another after it
rises_append : (from mid to : ℕ) (us vs : List Unit4) → from ≤ mid → mid ≤ to → rises from mid us ≡ true → rises mid to vs ≡ true
    → rises from to (us ++ vs) ≡ true
rises_append from mid to [] vs l u a b = rises_lower from mid to vs l b
rises_append from mid to (unit address bytes ∷ us) vs l u a b =
    let t = rises_tests from mid address bytes us a in
    let e : address + 4 ≤ mid = t.upper in
    rises_cons from to address bytes (us ++ vs) t.lower (omega arith) t.four (rises_append (address + 4) mid to us vs e u t.rest b)

-- ---- the writes of each call

rises_full : (end : ℕ) → rises 0 4 (full_units end) ≡ true
rises_full end = by_test (eqb end 126)
  where
    by_test : (last : Bool) → rises 0 4 (cond last (units 0 (state_bytes Full)) []) ≡ true
    by_test true = rises_units 0 (state_bytes Full) 4 (omega arith)
    by_test false = rises_nil 0 4

rises_header : (sequence : ℕ) → rises 0 32 (units 0 (header_bytes sequence)) ≡ true
unfolding header_bytes
rises_header sequence = rises_units 0 (header_bytes sequence) 32 (omega arith)

rises_marks : (i n : ℕ) (map : List ℕ) → in_order (marking i n (map_units i n map)) ≡ true
unfolding map_units
rises_marks i n map =
    let first : ℕ = i / 16 in
    let count : ℕ = (i + n - 1) / 16 + 1 - first in
    let part = field (4 * first) (4 * count) map in
    let long : length part ≤ 4 * count = rw length-take (omega arith) in
    rises_units (map_offset + 4 * first) part (marking i n []).to (omega arith)

rises_entries : (new : PutRequest) (page : Page) → formed (putting new) ≡ true
    → rises (entry_address (next_free page)) (entry_address (next_free page + span_of_new new)) (entry_units new page) ≡ true
rises_entries (single item) page h =
    let both = (and-eq-true_iff (eqb (length item.key) 16) (eqb (length item.bytes) 8)).0 h in
    let key : length item.key ≡ 16 = eqb-true (length item.key) 16 both.0 in
    let bytes : length item.bytes ≡ 8 = eqb-true (length item.bytes) 8 both.1 in
    let size : length (single_bytes item) ≡ 32 = length-item_bytes item.namespace item.kind 1 item.chunk item.key item.bytes key bytes in
    rises_units (entry_address (next_free page)) (single_bytes item) (entry_address (next_free page + 1)) (omega arith)
rises_entries (variable item payload) page h =
    let start = next_free page in
    let span = span_for (length payload) in
    let key : length item.key ≡ 16 = eqb-true (length item.key) 16 h in
    let size : length (variable_header item payload) ≡ 32 =
    length-item_bytes item.namespace item.kind span item.chunk item.key (sized_data payload) key (length-sized_data payload) in
    rises_append (entry_address start) (entry_address (start + 1)) (entry_address (start + span))
    (units (entry_address start) (variable_header item payload)) (units (entry_address (start + 1)) payload)
    (omega arith) (omega arith)
    (rises_units (entry_address start) (variable_header item payload) (entry_address (start + 1)) (omega arith))
    (rises_units (entry_address (start + 1)) payload (entry_address (start + span)) (omega arith))
rises_entries (copied source i) page h =
    let start = next_free page in
    let span = span_of (entry_at source i) in
    let size : length (copied_bytes source i) ≤ 32 * span = rw length-take (omega arith) in
    rises_units (entry_address start) (copied_bytes source i) (entry_address (start + span)) (omega arith)

-- the plan of a call that puts an item
pub plan_put : (new : PutRequest) (image : List ℕ) (page : Page)
    → plan_of (putting new) image page ≡ item_plan (entry_units new page) (next_free page) (span_of_new new) page.map
unfolding single_plan variable_plan copy_plan
plan_put (single item) image page = refl
plan_put (variable item payload) image page = refl
plan_put (copied source i) image page = refl

units_of_item : (new : PutRequest) (page : Page) → units_of (item_writes new page) ≡ item_plan (entry_units new page) (next_free page) (span_of_new new) page.map
unfolding item_plan
units_of_item new page =
    let start = next_free page in
    let span = span_of_new new in
    ap (λ (full : List Unit4). entry_units new page ++ (map_units start span (mark_range Written start span page.map) ++ full)) (append-nil (full_units (start + span)))

item_in_order : (new : PutRequest) (page : Page) → formed (putting new) ≡ true → every in_order (item_writes new page) ≡ true
item_in_order new page h =
    let start = next_free page in
    let span = span_of_new new in
    rw (rises_entries new page h, rises_marks start span (mark_range Written start span page.map), rises_full (start + span))

zero_in_order : (i : ℕ) (zs : List Bool) → every in_order (zero_writes i zs) ≡ true
unfolding zero_writes
zero_in_order i [] = refl
zero_in_order i (true ∷ zs) =
    rw (rises_units (entry_address i) (replicate 32 0) (entry_address (suc i)) (omega arith)) (zero_in_order (suc i) zs)
zero_in_order i (false ∷ zs) = rw (rises_nil (entry_address i) (entry_address (suc i))) (zero_in_order (suc i) zs)

units_of_zero : (i : ℕ) (zs : List Bool) → units_of (zero_writes i zs) ≡ zero_units i zs
unfolding zero_writes zero_units
units_of_zero i [] = refl
units_of_zero i (z ∷ zs) = ap (λ (rest : List Unit4). cond z (units (entry_address i) (replicate 32 0)) [] ++ rest) (units_of_zero (suc i) zs)

pub writes_in_order : WritesInOrder
unfolding initialise_plan mark_full_plan erase_plan purge_namespace_plan
writes_in_order (initialising sequence) image page h = (append-nil (initialise_plan sequence), rw (rises_header sequence))
writes_in_order marking_full image page h = (append-nil mark_full_plan, rw (rises_units 0 (state_bytes Full) 4 (omega arith)))
writes_in_order (putting new) image page h = (units_of_item new page ∙ sym (plan_put new image page), item_in_order new page h)
writes_in_order (erasing index span) image page h =
    (append-nil (erase_plan page index span), rw (rises_marks index span (mark_range Erased index span page.map)))
writes_in_order (purging namespace) image page h =
    let zs = to_zero namespace zero false (states_of page.map) (entries_of image) in (units_of_zero 0 zs, zero_in_order 0 zs)

-- ---- a byte that no write reaches

-- all units lie where the write does
outside_rises : (i from to : ℕ) (plan : List Unit4) → rises from to plan ≡ true → (i < from) ⊎ (to ≤ i) → Outside i (i + 1) plan
outside_rises i from to [] h s = outside_nil
outside_rises i from to (unit address bytes ∷ plan) h s =
    let t = rises_tests from to address bytes plan h in
    outside_cons address bytes (by_side t s) (outside_rises i (address + 4) to plan t.rest (further t s))
  where
    by_side : Tests from to address bytes plan → (i < from) ⊎ (to ≤ i) → (address + length bytes ≤ i) ⊎ (i + 1 ≤ address)
    by_side t (inl l) = inr (omega arith)
    by_side t (inr u) = inl (omega arith)

    further : Tests from to address bytes plan → (i < from) ⊎ (to ≤ i) → (i < address + 4) ⊎ (to ≤ i)
    further t (inl l) = inl (omega arith)
    further t (inr u) = inr u

outside_none : (i : ℕ) (plan : List Unit4) → length plan ≡ 0 → Outside i (i + 1) plan
outside_none i [] h = outside_nil
outside_none i (unit address bytes ∷ plan) h = absurd (omega arith)

outside_write : (i : ℕ) (write : Write) → in_order write ≡ true → outside i write ≡ true → Outside i (i + 1) write.plan
outside_write i write o h = by_tests (ltb i write.from) (leb write.to i) refl refl h
  where
    by_tests : (below behind : Bool) → ltb i write.from ≡ below → leb write.to i ≡ behind
        → (below || (behind || eqb (length write.plan) 0)) ≡ true → Outside i (i + 1) write.plan
    by_tests true behind b e h = outside_rises i write.from write.to write.plan o (inl (ltb-true i write.from b))
    by_tests false true b e h = outside_rises i write.from write.to write.plan o (inr (leb-true write.to i e))
    by_tests false false b e h = outside_none i write.plan (eqb-true (length write.plan) 0 h)

pub outside_units_of : (i : ℕ) (writes : List Write) → every in_order writes ≡ true → every (outside i) writes ≡ true → Outside i (i + 1) (units_of writes)
outside_units_of i [] o h = outside_nil
outside_units_of i (write ∷ writes) o h =
    let order = (and-eq-true_iff (in_order write) (every in_order writes)).0 o in
    let away = (and-eq-true_iff (outside i write) (every (outside i) writes)).0 h in
    outside_append (outside_write i write order.0 away.0) (outside_units_of i writes order.1 away.1)

-- so it is not altered
first_of_drop : (xs : List ℕ) (i : ℕ) → get_or (take 1 (drop i xs)) 0 0 ≡ get_or xs i 0
first_of_drop xs i = get_or-take 1 (drop i xs) 0 0 (omega arith) ∙ get_or-drop i xs 0 0 ∙ rw add-zero

get_d_run : (i : ℕ) (plan : List Unit4) (image : List ℕ) → Outside i (i + 1) plan → get_or (run plan image) i 0 ≡ get_or image i 0
get_d_run i plan image o =
    sym (first_of_drop (run plan image) i) ∙ ap (λ (xs : List ℕ). get_or xs 0 0) (take_drop_run i 1 image o) ∙ first_of_drop image i

pub get_d_after : (i : ℕ) (ok : Bool) (plan : List Unit4) (image : List ℕ) → Outside i (i + 1) plan → get_or (cond ok (run plan image) image) i 0 ≡ get_or image i 0
get_d_after i true plan image o = get_d_run i plan image o
get_d_after i false plan image o = refl

-- ---- purge by index

pub purge_in_order : PurgeInOrder
unfolding purge_plan
purge_in_order index span = by_test (ltb index 126)
  where
    by_test : (on : Bool)
        → rises (entry_address index) (entry_address (index + held_span index span))
        (cond on (units (entry_address index) (replicate (32 * held_span index span) 0)) []) ≡ true
    by_test true =
        rises_units (entry_address index) (replicate (32 * held_span index span) 0) (entry_address (index + held_span index span))
        (rw length-replicate (omega arith))
    by_test false = rises_nil (entry_address index) (entry_address (index + held_span index span))

pub purges_its_entries : PurgesItsEntries
unfolding purge_image
purges_its_entries image index span i s =
    get_d_after i (accepted (bad_image image ∷ [])) (purge_plan index span) image
    (outside_rises i (entry_address index) (entry_address (index + held_span index span)) (purge_plan index span) (purge_in_order index span) s)

image_kept : (ok : Bool) (image : List ℕ) → cond ok (run [] image) image ≡ image
unfolding run
image_kept true image = refl
image_kept false image = refl

pub purges_nothing_past : PurgesNothingPast
unfolding purge_image purge_plan
purges_nothing_past image index span h = rw (le-ltb index 126 h) (image_kept (accepted (bad_image image ∷ [])) image)
