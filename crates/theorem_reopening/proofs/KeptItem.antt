-- An item that the reading keeps: where it lies in a closed front, what erasing it leaves, and that it is whole on any page.
--
-- In order: the entries that a header covers; the place of a kept item; the item erased; the indices of kept items; kept items of any page.
use mathlib.Core.Path.{◌≡◌, refl, sym, ap, ◌∙◌}
use mathlib.Core.List.{List, [], ◌∷◌, ◌++◌, Memᴰ}
use Prim.Native.Nat.{ℕ, zero, suc, ◌≤◌, ◌<◌, ◌+◌}
use native.Mathlib.Nat.{le_refl, zero-add, add-zero, add-suc, suc-add}
use native.Mathlib.Omega.{arith}
use lib.ListN.{length, take, drop, replicate, length-append, length-replicate, length-drop, take-append-drop}
use lib.Seq.{take-append-le, length-take-le, take-take, take_at, drop_at, drop-append-le}
use Rattle.sector.specs.declared.EntryMapState.{EntryMapState}
use Rattle.sector.specs.declared.EntryMapState.TheVariants.{Written, Erased}
use Rattle.sector.proofs.Marks.{marked, marked_at, marked_erased}
use Rattle.opening_reading.specs.declared.Verdict.{Verdict}
use Rattle.opening_reading.specs.declared.Verdict.TheVariants.{NotAnItem, RefusedEntry, RefusedItem, Kept}
use Rattle.opening_reading.specs.Reading.{verdict_at, steps_over, Item, item, with_kept, kept_from}
use Rattle.opening_reading.proofs.Verdicts.{States, Entries, Whole, whole_fits, whole_elsewhere, whole_front, verdict_kept_item}
use Rattle.theorem_reopening.proofs.Closed.{Closed, closed_nil, closed_erased, closed_header, closed_covered, length_closed, closed_fits, good_closed, closed_append, kept_from_closed}
use Rattle.theorem_reopening.proofs.Reopened.{kept_opened_states}
use Rattle.theorem_reopening.proofs.OpenedFront.{opened, kept_opened}

-- ---- the entries that a header covers

-- k covered entries, and the closed front after them
record Behind (k : ℕ) (front : States) (bytes : Entries) : Type 0 where
  rest : States
  split : front ≡ replicate k Written ++ rest
  closed : Closed zero rest (drop k bytes)
  kept : (i : ℕ) → kept_from k i front bytes ≡ kept_from zero (i + k) rest (drop k bytes)

behind : {k : ℕ} {front : States} {bytes : Entries} → Closed k front bytes → Behind k front bytes
behind closed_nil = record { rest = []; split = refl; closed = closed_nil; kept = λ i. refl }
behind (closed_erased {states} entry c) = record { rest = Erased ∷ states; split = refl; closed = closed_erased entry c; kept = λ i. rw add-zero }
behind (closed_header {states = states} entry w c) =
    record { rest = Written ∷ states; split = refl; closed = closed_header entry w c; kept = λ i. rw add-zero }
behind (closed_covered {k} entry c) =
    let b = behind c in
    record {
      rest = b.rest;
      split = ap (λ (states : States). Written ∷ states) b.split;
      closed = b.closed;
      kept = λ i. rw (add-suc, ← suc-add i k) (b.kept (suc i));
    }

-- ---- the place of a kept item

-- what lies before the item and after it, with what is kept there
pub record Place (k i j : ℕ) (group : Entries) (before after : List Item) (front : States) (bytes : Entries) : Type 0 where
  pub ahead : States
  pub rest : States
  pub bytes_ahead : Entries
  pub bytes_rest : Entries
  pub states_split : front ≡ ahead ++ (replicate (length group) Written ++ rest)
  pub entries_split : bytes ≡ bytes_ahead ++ (group ++ bytes_rest)
  pub index : j ≡ i + length ahead
  pub header : List ℕ
  pub new : Entries
  pub header_first : group ≡ header ∷ new
  pub whole : Whole header (length new) new
  pub closed_ahead : Closed k ahead bytes_ahead
  pub closed_rest : Closed zero rest bytes_rest
  pub kept_ahead : kept_from k i ahead bytes_ahead ≡ before
  pub kept_rest : kept_from zero (j + length group) rest bytes_rest ≡ after

-- the items of a front that begins with a header
kept_from_header : {k : ℕ} {entry : List ℕ} {states : States} {entries : Entries} (i : ℕ) → Whole entry k entries → Closed k states entries
    → kept_from zero i (Written ∷ states) (entry ∷ entries) ≡ item i (entry ∷ take k entries) ∷ kept_from k (suc i) states entries
kept_from_header i w c = rw (verdict_kept_item (good_closed w c))

not_nil : (x : Item) (before after : List Item) → ◌≡◌ {A = List Item} [] (before ++ (x ∷ after)) → ⊥
not_nil x [] after e = let z : ◌≡◌ {A = ℕ} 0 1 = cc in omega arith
not_nil x (y ∷ before) after e = let z : ◌≡◌ {A = ℕ} 0 1 = cc in omega arith

-- an entry more before the item
further : {k n i j : ℕ} {group : Entries} {before after : List Item} {states : States} {entries : Entries} (s : EntryMapState) (entry : List ℕ)
    (earlier : List Item) (p : Place k (suc i) j group before after states entries) → Closed n (s ∷ p.ahead) (entry ∷ p.bytes_ahead)
    → kept_from n i (s ∷ p.ahead) (entry ∷ p.bytes_ahead) ≡ earlier → Place n i j group earlier after (s ∷ states) (entry ∷ entries)
further {i = i} s entry earlier p c e =
    record {
      ahead = s ∷ p.ahead;
      rest = p.rest;
      bytes_ahead = entry ∷ p.bytes_ahead;
      bytes_rest = p.bytes_rest;
      states_split = ap (λ (states : States). s ∷ states) p.states_split;
      entries_split = ap (λ (entries : Entries). entry ∷ entries) p.entries_split;
      index = p.index ∙ omega arith;
      header = p.header;
      new = p.new;
      header_first = p.header_first;
      whole = p.whole;
      closed_ahead = c;
      closed_rest = p.closed_rest;
      kept_ahead = e;
      kept_rest = p.kept_rest;
    }

-- the item is the first entry's
here : {k : ℕ} {entry : List ℕ} {states : States} {entries : Entries} (i : ℕ) → Whole entry k entries → Closed k states entries
    → Place zero i i (entry ∷ take k entries) [] (kept_from k (suc i) states entries) (Written ∷ states) (entry ∷ entries)
here {k} {entry} {states} {entries} i w c =
    let b = behind c in
    let long : length (take k entries) ≡ k = length-take-le k entries (whole_fits w) in
    record {
      ahead = [];
      rest = b.rest;
      bytes_ahead = [];
      bytes_rest = drop k entries;
      states_split = rw long (ap (λ (states : States). Written ∷ states) b.split);
      entries_split = ap (λ (entries : Entries). entry ∷ entries) (sym (take-append-drop k entries));
      index = sym (add-zero i);
      header = entry;
      new = take k entries;
      header_first = refl;
      whole = rw long (whole_elsewhere w (omega (arith, long)) (take-take k k entries (le_refl k)));
      closed_ahead = closed_nil;
      closed_rest = b.closed;
      kept_ahead = refl;
      kept_rest = rw (long, add-suc, ← suc-add i k) (sym (b.kept (suc i)));
    }

-- the item lies after the first entry's
later : {k i j : ℕ} {entry : List ℕ} {group : Entries} {before after : List Item} {states : States} {entries : Entries} → Whole entry k entries
    → Place k (suc i) j group before after states entries
    → Place zero i j group (item i (entry ∷ take k entries) ∷ before) after (Written ∷ states) (entry ∷ entries)
later {k} {i} {entry = entry} {group} {before} {entries = entries} w p =
    let fits = closed_fits p.closed_ahead in
    let whole : Whole entry k p.bytes_ahead = whole_front p.bytes_ahead (group ++ p.bytes_rest) fits (rw p.entries_split at w) in
    let same : take k entries ≡ take k p.bytes_ahead =
    ap (take k) p.entries_split ∙ take-append-le k p.bytes_ahead (group ++ p.bytes_rest) fits in
    further Written entry (item i (entry ∷ take k entries) ∷ before) p (closed_header entry whole p.closed_ahead)
    (rw (same, kept_from_header i whole p.closed_ahead, p.kept_ahead))

module _ {k : ℕ} {entry : List ℕ} {states : States} {entries : Entries} (i j : ℕ) (group : Entries) (after : List Item)
    (w : Whole entry k entries) (c : Closed k states entries) where
  place_first : kept_from zero i (Written ∷ states) (entry ∷ entries) ≡ item j group ∷ after → Place zero i j group [] after (Written ∷ states) (entry ∷ entries)
  place_first e =
      let first : item i (entry ∷ take k entries) ∷ kept_from k (suc i) states entries ≡ item j group ∷ after = sym (kept_from_header i w c) ∙ e in
      let index : i ≡ j = cc in
      let bytes : entry ∷ take k entries ≡ group = cc in
      let rest : kept_from k (suc i) states entries ≡ after = cc in
      rw (← index, ← bytes, ← rest) (here i w c)

  place_later : (x : Item) (before : List Item)
      → (kept_from k (suc i) states entries ≡ before ++ (item j group ∷ after) → Place k (suc i) j group before after states entries)
      → kept_from zero i (Written ∷ states) (entry ∷ entries) ≡ x ∷ (before ++ (item j group ∷ after))
      → Place zero i j group (x ∷ before) after (Written ∷ states) (entry ∷ entries)
  place_later x before p e =
      let all = before ++ (item j group ∷ after) in
      let first : item i (entry ∷ take k entries) ∷ kept_from k (suc i) states entries ≡ x ∷ all = sym (kept_from_header i w c) ∙ e in
      let same : item i (entry ∷ take k entries) ≡ x = cc in
      let rest : kept_from k (suc i) states entries ≡ all = cc in
      rw (← same) (later w (p rest))

pub place : {k : ℕ} {front : States} {bytes : Entries} (i j : ℕ) (group : Entries) (before after : List Item) → Closed k front bytes
    → kept_from k i front bytes ≡ before ++ (item j group ∷ after) → Place k i j group before after front bytes
place i j group before after closed_nil e = absurd (not_nil (item j group) before after e)
place i j group before after (closed_erased entry c) e =
    let p = place (suc i) j group before after c e in further Erased entry before p (closed_erased entry p.closed_ahead) p.kept_ahead
place i j group before after (closed_covered entry c) e =
    let p = place (suc i) j group before after c e in further Written entry before p (closed_covered entry p.closed_ahead) p.kept_ahead
place i j group [] after (closed_header entry w c) e = place_first i j group after w c e
place i j group (x ∷ before) after (closed_header entry w c) e = place_later i j group after w c x before (place (suc i) j group before after c) e

-- ---- the item erased

-- entries that are all Erased
closed_all_erased : (group : Entries) → Closed zero (replicate (length group) Erased) group
closed_all_erased [] = closed_nil
closed_all_erased (entry ∷ group) = closed_erased entry (closed_all_erased group)

kept_from_all_erased : (i : ℕ) (group : Entries) → kept_from zero i (replicate (length group) Erased) group ≡ []
kept_from_all_erased i [] = refl
kept_from_all_erased i (entry ∷ group) = kept_from_all_erased (suc i) group

module _ {j : ℕ} {group : Entries} {before after : List Item} {front : States} {bytes : Entries}
    (p : Place zero zero j group before after front bytes) where
  -- the item's marks become Erased, and no other
  marked_place : marked Erased j (length group) front ≡ p.ahead ++ (replicate (length group) Erased ++ p.rest)
  marked_place =
      let n = length group in
      let fits : n ≤ length (replicate n Written ++ p.rest) = omega (arith, length-append (replicate n Written) p.rest, length-replicate n Written) in
      rw (p.states_split, p.index, zero-add, marked_at Erased p.ahead (replicate n Written ++ p.rest) n)
      (ap (λ (states : States). p.ahead ++ states)
      (marked_erased n (replicate n Written ++ p.rest) fits
      ∙ ap (λ (states : States). replicate n Erased ++ states) (drop_at (replicate n Written) p.rest n (length-replicate n Written))))

  -- the front without the item is closed
  pub closed_erase : Closed zero (marked Erased j (length group) front) bytes
  closed_erase = rw (marked_place, p.entries_split) (closed_append p.closed_ahead (closed_append (closed_all_erased group) p.closed_rest))

  -- and keeps the other items, in their order
  pub kept_erase : kept_from zero zero (marked Erased j (length group) front) bytes ≡ before ++ after
  kept_erase =
      let n = length group in
      let erased = replicate n Erased in
      rw (
        marked_place,
        p.entries_split,
        kept_from_closed zero (erased ++ p.rest) (group ++ p.bytes_rest) p.closed_ahead,
        p.kept_ahead,
        zero-add,
        kept_from_closed (length p.ahead) p.rest p.bytes_rest (closed_all_erased group),
        kept_from_all_erased (length p.ahead) group,
        length-replicate n Erased,
        ← zero-add (length p.ahead),
        ← p.index,
        p.kept_rest,
      )

  -- the item lies in the front
  pub place_fits_lem : j + length group ≤ length front
  place_fits_lem =
      rw (p.states_split, length-append p.ahead (replicate (length group) Written ++ p.rest), length-append (replicate (length group) Written) p.rest, length-replicate (length group) Written)
      (omega (arith, p.index))

  -- and its bytes are the front's from its index on
  pub place_bytes_lem : take (length group) (drop j bytes) ≡ group
  place_bytes_lem =
      rw (p.entries_split, p.index, zero-add, length_closed p.closed_ahead, drop_at p.bytes_ahead (group ++ p.bytes_rest) (length p.bytes_ahead) refl)
      (take_at group p.bytes_rest (length group) refl)

-- ---- the indices of kept items

-- all of them from one bound up to another
pub data Indices (low high : ℕ) : List Item → Type 0 where
  indices_nil : Indices low high []
  indices_cons : {items : List Item} (i : ℕ) (entries : Entries) → low ≤ i → i < high → Indices low high items → Indices low high (item i entries ∷ items)

indices_wider : {low high lower higher : ℕ} {items : List Item} → lower ≤ low → high ≤ higher → Indices low high items → Indices lower higher items
indices_wider l h indices_nil = indices_nil
indices_wider l h (indices_cons i entries g f d) = indices_cons i entries (omega arith) (omega arith) (indices_wider l h d)

indices_with_kept : {low high : ℕ} {items : List Item} (verdict : Verdict) (i : ℕ) (entry : List ℕ) (entries : Entries) → low ≤ i → i < high → Indices low high items
    → Indices low high (with_kept verdict i entry entries items)
indices_with_kept NotAnItem i entry entries l h d = d
indices_with_kept (RefusedEntry reason) i entry entries l h d = d
indices_with_kept (RefusedItem reason k) i entry entries l h d = d
indices_with_kept (Kept k) i entry entries l h d = indices_cons i (entry ∷ take k entries) l h d

pub indices_kept_from : (k i : ℕ) (states : States) (entries : Entries) → Indices i (i + length states) (kept_from k i states entries)
indices_kept_from k i [] entries = indices_nil
indices_kept_from k i (s ∷ states) [] = indices_nil
indices_kept_from zero i (s ∷ states) (entry ∷ entries) =
    let verdict = verdict_at s entry states entries in
    let rest = indices_kept_from (steps_over verdict) (suc i) states entries in
    indices_with_kept verdict i entry entries (omega arith) (omega arith) (indices_wider (omega arith) (omega arith) rest)
indices_kept_from (suc k) i (s ∷ states) (entry ∷ entries) = indices_wider (omega arith) (omega arith) (indices_kept_from k (suc i) states entries)

-- the items before one have smaller indices, and those after it greater ones
pub indices_before : {j : ℕ} {group : Entries} {before after : List Item} {front : States} {bytes : Entries} → Place zero zero j group before after front bytes
    → Indices zero j before
indices_before p = rw (← p.kept_ahead, p.index) (indices_kept_from zero zero p.ahead p.bytes_ahead)

pub indices_after : {j : ℕ} {group : Entries} {before after : List Item} {front : States} {bytes : Entries} (p : Place zero zero j group before after front bytes)
    → Indices (j + length group) (j + length group + length p.rest) after
indices_after {j} {group} p = rw (← p.kept_rest) (indices_kept_from zero (j + length group) p.rest p.bytes_rest)

-- ---- kept items of any page

-- an item of a list, and those before it and after it
pub member_split : {x : Item} {items : List Item} → Memᴰ x items → (before : List Item) × (after : List Item) × (items ≡ before ++ (x ∷ after))
member_split (Memᴰ.head {xs = xs} e) = ([], xs, ap (λ (y : Item). y ∷ xs) (sym e))
member_split (Memᴰ.tail {x = y} m) =
    let split = member_split m in (y ∷ split.0, split.1, ap (λ (items : List Item). y ∷ items) split.2)

-- the item is whole, and its bytes are the page's from its index on
pub record WholeAt (j : ℕ) (group : Entries) (entries : Entries) : Type 0 where
  pub header : List ℕ
  pub new : Entries
  pub header_first : group ≡ header ∷ new
  pub whole : Whole header (length new) new
  pub fits : j + length group ≤ length entries
  pub bytes : take (length group) (drop j entries) ≡ group

pub kept_whole : {j : ℕ} {group : Entries} (states : States) (entries : Entries) → length states ≡ length entries
    → Memᴰ (item j group) (kept_from zero zero states entries) → WholeAt j group entries
kept_whole {j} {group} states entries l m =
    let split = member_split m in
    let o = opened states entries l in
    let p = place zero j group split.0 split.1 o.closed (sym (kept_opened o) ∙ kept_opened_states zero states entries l ∙ split.2) in
    let fits : j + length group ≤ length o.bytes = rw (← length_closed o.closed) (place_fits_lem p) in
    record {
      header = p.header;
      new = p.new;
      header_first = p.header_first;
      whole = p.whole;
      fits = rw (o.entries_split, length-append o.bytes o.blanks) (omega arith);
      bytes =
          rw (
            o.entries_split,
            drop-append-le j o.bytes o.blanks (omega arith),
            take-append-le (length group) (drop j o.bytes) o.blanks (rw length-drop (omega arith)),
          )
          (place_bytes_lem p);
    }
