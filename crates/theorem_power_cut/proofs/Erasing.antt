-- Erasing one whole kept item of a page that is held: the page is held again, without the item.
--
-- In order: the items and the list without an index; the page and the record without it.
use mathlib.Core.Path.{◌≡◌, refl, sym, ap, ap₂, ◌∙◌, subst}
use mathlib.Core.Bool.{Bool, true, false, cond}
use mathlib.Core.List.{List, [], ◌∷◌, ◌++◌, Memᴰ}
use Prim.Native.Nat.{ℕ, zero, ◌+◌, ◌-◌, ◌*◌, ◌≤◌, ◌<◌}
use native.Mathlib.Nat.{zero-add}
use native.Mathlib.Omega.{arith}
use lib.Dec.{eqb}
use lib.ListN.{length, take, drop, replicate, length-replicate}
use lib.Seq.{take_at, drop_at}
use borrow.Author.Tests.{eq-eqb, ne_eqb}
use Rattle.flash.specs.Flash.{run, every}
use Rattle.flash.proofs.Laws.{Bytes, bytes_run}
use Rattle.page.specs.declared.Listed.{Listed}
use Rattle.page.specs.Record.{no_item, padded, without, with_erased}
use Rattle.sector.specs.declared.EntryMapState.TheVariants.{Empty, Written, Erased}
use Rattle.sector.specs.Item.{hash_of_item}
use Rattle.sector.specs.Layout.{chunks, namespace_of}
use Rattle.sector.specs.Map.{mark_range, map_units, count_in, same_state}
use Rattle.sector.proofs.Laws.{length-mark_range}
use Rattle.sector.proofs.Marks.{marked, marked_inside, length_marked, count_in_erased, states_of-mark_range, run-map_units}
use Rattle.opening_reading.specs.Reading.{Item, item, kept_from}
use Rattle.opening.specs.Opening.{header_of, listed_items}
use Rattle.opening_reading.proofs.Verdicts.{States, Entries}
use Rattle.theorem_reopening.proofs.KeptItem.{Place, place, closed_erase, kept_erase, place_fits_lem, Indices, indices_nil, indices_cons, indices_before, indices_after, member_split}
use Rattle.theorem_reopening.proofs.OpenedFront.{count_closed}
use Rattle.theorem_writing.proofs.FitRecords.{every_replicate}
use Rattle.theorem_power_cut.specs.History.{without_item}
use Rattle.theorem_power_cut.proofs.Standing.{Standing, standing_map_bytes}
use Rattle.theorem_power_cut.proofs.AtHand.{page_of}

-- ---- without an index

-- where no item has it
without_none : {low high : ℕ} {items : List Item} (index : ℕ) → ((i : ℕ) → low ≤ i → i < high → i ≡ index → ⊥) → Indices low high items → without_item index items ≡ items
without_none index apart indices_nil = refl
without_none index apart (indices_cons i entries l u rest) =
    rw (ne_eqb i index (apart i l u)) (ap (λ (others : List Item). item i entries ∷ others) (without_none index apart rest))

without_append : (index : ℕ) (xs ys : List Item) → without_item index (xs ++ ys) ≡ without_item index xs ++ without_item index ys
without_append index [] ys = refl
without_append index (item i entries ∷ xs) ys = by_test (eqb i index) (without_append index xs ys)
  where
    by_test : (gone : Bool) → without_item index (xs ++ ys) ≡ without_item index xs ++ without_item index ys
        → cond gone (without_item index (xs ++ ys)) (item i entries ∷ without_item index (xs ++ ys))
        ≡ cond gone (without_item index xs) (item i entries ∷ without_item index xs) ++ without_item index ys
    by_test true e = e
    by_test false e = ap (λ (items : List Item). item i entries ∷ items) e

-- the item at its place is the only one with its index
pub without_place : {j : ℕ} {group : Entries} {before after : List Item} {front : States} {bytes : Entries} → Place zero zero j group before after front bytes
    → without_item j (before ++ (item j group ∷ after)) ≡ before ++ after
without_place {j} {group} {before} {after} p =
    without_append j before (item j group ∷ after)
    ∙ ap₂ (λ (xs ys : List Item). xs ++ ys)
    (without_none j (λ i l u e. omega arith) (indices_before p))
    (rw (eq-eqb j j refl) (without_none j (λ i l u e. omega (arith, ap length p.header_first)) (indices_after p)))

-- the list without an index is the list of the items without it
listed_without : (index : ℕ) (items : List Item) → without index (listed_items items) ≡ listed_items (without_item index items)
unfolding without
listed_without index [] = refl
listed_without index (item i entries ∷ items) =
    by_tests (eqb (namespace_of (header_of entries)) 0) refl (eqb i index) refl (listed_without index items)
  where
    place_of : Listed
    place_of = record { hash = hash_of_item (header_of entries); index = i }

    by_tests : (none : Bool) → eqb (namespace_of (header_of entries)) 0 ≡ none → (gone : Bool) → eqb i index ≡ gone
        → without index (listed_items items) ≡ listed_items (without_item index items)
        → without index (listed_items (item i entries ∷ items)) ≡ listed_items (without_item index (item i entries ∷ items))
    by_tests true n true g e = rw (n, g) e
    by_tests true n false g e = rw (n, g) (rw n e)
    by_tests false n true g e = rw (n, g) e
    by_tests false n false g e = rw (n, g) (rw n (ap (λ (places : List Listed). place_of ∷ places) e))

-- ---- the page without the item

in_use_lem : (places : List Listed) → take (length places) (padded places) ≡ places
in_use_lem places = take_at places (replicate (126 - length places) no_item) (length places) refl

module _ {image : List ℕ} {items : List Item} (p : Standing image items) (j : ℕ) (group : Entries) (m : Memᴰ (item j group) items) where
  abbrev n : ℕ
  n = length group

  abbrev before : List Item
  before = (member_split m).0

  abbrev after : List Item
  after = (member_split m).1

  pub here : Place zero zero j group before after p.front (chunks (length p.front) p.used)
  here = place zero j group before after p.closed (p.kept ∙ (member_split m).2)

  pub some : 1 ≤ n
  some = omega (arith, ap length here.header_first)

  pub fits : j + n ≤ length p.front
  fits = place_fits_lem here

  abbrev front' : States
  front' = marked Erased j n p.front

  pub front_length : length front' ≡ length p.front
  front_length = length_marked Erased j n p.front

  abbrev map' : List ℕ
  map' = mark_range Erased j n p.map

  abbrev rest : List ℕ
  rest = p.used ++ replicate (32 * p.spare) 0xFF

  pub run_erase : run (map_units j n map') image ≡ p.header ++ (map' ++ rest)
  run_erase =
      ap (run (map_units j n map')) p.split
      ∙ run-map_units Erased j n p.header p.map rest p.header_size p.map_size_lem (subst Bytes p.split p.bytes) some (omega (arith, fits, p.sum))

  pub kept_others : kept_from zero zero front' (chunks (length p.front) p.used) ≡ without_item j items
  kept_others = kept_erase here ∙ sym (without_place here) ∙ ap (without_item j) (sym (member_split m).2)

  unfoldable pub erased_standing : Standing (run (map_units j n map') image) (without_item j items)
  erased_standing =
      record {
        header = p.header;
        map = map';
        used = p.used;
        front = front';
        spare = p.spare;
        split = run_erase;
        header_size = p.header_size;
        map_size_lem = length-mark_range Erased j n p.map ∙ p.map_size_lem;
        used_size = p.used_size ∙ ap (λ (k : ℕ). 32 * k) (sym front_length);
        sum = ap (λ (k : ℕ). k + p.spare) front_length ∙ p.sum;
        bytes = bytes_run (map_units j n map') p.bytes;
        states =
            states_of-mark_range Erased j n (standing_map_bytes p) ∙ ap (marked Erased j n) p.states
            ∙ marked_inside Erased p.front (replicate p.spare Empty) j n fits;
        closed = rw front_length (closed_erase here);
        kept = rw front_length kept_others;
      }

  written_count : count_in Written front' + n ≡ count_in Written p.front
  written_count =
      let written : take n (drop j p.front) ≡ replicate n Written =
      ap₂ (λ (i : ℕ) (states : States). take n (drop i states)) (here.index ∙ zero-add (length here.ahead)) here.states_split
      ∙ ap (take n) (drop_at here.ahead (replicate n Written ++ here.rest) (length here.ahead) refl)
      ∙ take_at (replicate n Written) here.rest n (length-replicate n Written) in
      count_in_erased j n p.front fits (ap (every (same_state Written)) written ∙ every_replicate (same_state Written) n Written refl)

  counts : (count_in Written p.front - n ≡ count_in Written front') × (count_in Erased p.front + n ≡ count_in Erased front')
  counts =
      let old = count_closed p.closed in
      let new = count_closed (closed_erase here) in
      (omega (arith, written_count), omega (arith, written_count, front_length))

  pub with_erased_lem : with_erased (page_of p.header p.map p.front items) j n ≡ page_of p.header map' front' (without_item j items)
  unfolding with_erased
  with_erased_lem =
      rw (
        counts.0,
        counts.1,
        in_use_lem (listed_items items),
        listed_without j items,
      )
