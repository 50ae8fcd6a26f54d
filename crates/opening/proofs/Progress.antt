-- What the walk's loop has done up to an index, and what is left of it: in the map, of the refused headers, of the list.
use mathlib.Core.Path.{◌≡◌, refl, sym, ap, ap₂, ◌∙◌}
use mathlib.Core.Bool.{Bool, true, false, and-eq-true_iff}
use mathlib.Core.List.{List, [], ◌∷◌, ◌++◌, append_assoc, append-nil}
use Prim.Native.Nat.{ℕ, zero, suc, ◌+◌, ◌-◌, ◌<◌, ◌≤◌}
use native.Mathlib.Nat.{le_of_suc-le-suc, not-suc-le-zero, le_refl, add-zero}
use native.Mathlib.Numerals.{add-one}
use native.Mathlib.Omega.{arith}
use lib.Dec.{eqb}
use lib.ListN.{length, take, drop, set, replicate, length-drop, length-set, length-replicate, length-append}
use lib.Seq.{take-add, drop-drop, take_at, take-set-le, drop-set-add, take_all}
use Rattle.flash.proofs.Laws.{Bytes}
use Rattle.page.specs.declared.Listed.{Listed}
use Rattle.sector.specs.declared.EntryMapState.{EntryMapState}
use Rattle.sector.specs.declared.EntryMapState.TheVariants.{Written, Erased}
use Rattle.sector.specs.Item.{hash_of_item}
use Rattle.sector.specs.Layout.{entries_per_page, entry_at, entries_of, namespace_of}
use Rattle.sector.specs.Map.{unpack, states_of, state_at, mark_range}
use Rattle.sector.proofs.Laws.{drop_replicate, length-states_of, length-mark_range}
use Rattle.sector.proofs.Marks.{marked, take_marked, drop_marked, marked_erased, states_of-mark_range, unpack-mark_range, bytes_mark_range}
use Rattle.opening_reading.specs.declared.Verdict.{Verdict}
use Rattle.opening_reading.specs.declared.Verdict.TheVariants.{NotAnItem, RefusedEntry, RefusedItem, Kept}
use Rattle.opening_reading.specs.Reading.{is_usable, usable, steps_over, mark_of, mark_behind, walk, kept_from}
use Rattle.opening_marks.specs.Marks.{HasStates}
use Rattle.opening.specs.Opening.{is_refused_item, refused_headers, listed_items}
use Rattle.opening.specs.Steps.{marked_by, with_listed, listed_by}
use Rattle.opening_reading.proofs.Entries.{states_from, states_past}
use Rattle.opening_reading.proofs.Midway.{both_written}
use Rattle.opening_reading.specs.Walk.{verdict_of}
use Rattle.opening_reading.proofs.Steps.{kept_usable, states_behind, steps_inside, steps_states, steps_entries, here, after, walk_from, kept_from_lem}

-- ---- lists done so far

-- n more places are right, and what was left began with them
pub forward : {A : Type 0} (xs ys block rest left all : List A) (i n j : ℕ) → i + n ≡ j → take i ys ≡ take i xs → take n (drop i ys) ≡ block
    → left ≡ block ++ rest → take i xs ++ left ≡ all → take j ys ++ rest ≡ all
forward xs ys block rest left all i n j e before within splits done =
    ap (λ (m : ℕ). take m ys ++ rest) (sym e)
    ∙ ap (λ (front : List _). front ++ rest) (take-add i n ys ∙ ap₂ (λ (front back : List _). front ++ back) before within)
    ∙ append_assoc (take i xs) block rest
    ∙ ap (λ (back : List _). take i xs ++ back) (sym splits)
    ∙ done

take_replicate : {A : Type 0} (k n : ℕ) (x : A) → k ≤ n → take k (replicate n x) ≡ replicate k x
take_replicate zero n x h = refl
take_replicate (suc k) zero x h = absurd (not-suc-le-zero h)
take_replicate (suc k) (suc n) x h = ap (λ (rest : List _). x ∷ rest) (take_replicate k n x (le_of_suc-le-suc h))

-- ---- the map

drop_marked_from : (s : EntryMapState) (i n : ℕ) (states : List EntryMapState) → drop i (marked s i n states) ≡ marked s zero n (drop i states)
drop_marked_from s zero n states = refl
drop_marked_from s (suc i) n [] = refl
drop_marked_from s (suc i) n (t ∷ states) = drop_marked_from s i n states

marked_usable : (k : ℕ) (states : List EntryMapState) → k ≤ length states → usable k states ≡ true
    → take k (marked Written zero k states) ≡ replicate k Written
marked_usable zero states h e = refl
marked_usable (suc k) [] h e = absurd (not-suc-le-zero h)
marked_usable (suc k) (t ∷ states) h e =
    let all = (and-eq-true_iff (is_usable t) (usable k states)).0 e in
    ap₂ (λ (s : EntryMapState) (rest : List EntryMapState). s ∷ rest) (both_written t all.0) (marked_usable k states (le_of_suc-le-suc h) all.1)

take_erased : (n : ℕ) (states : List EntryMapState) → n ≤ length states → take n (marked Erased zero n states) ≡ replicate n Erased
take_erased n states h =
    ap (take n) (marked_erased n states h) ∙ take_at (replicate n Erased) (drop n states) n (length-replicate n Erased)

-- up to i the map is marked as the walk marks it, from i on it is as it was, and so are the bits of no entry
pub record MarkedTo (image map now : List ℕ) (i : ℕ) : Type 0 where
  pub marks : take i (states_of now) ++ walk zero Erased (drop i (states_of map)) (drop i (entries_of image))
      ≡ walk zero Erased (states_of map) (entries_of image)
  pub left : drop i (states_of now) ≡ drop i (states_of map)
  pub spare : drop entries_per_page (unpack now) ≡ drop entries_per_page (unpack map)
  pub bytes : Bytes now
  pub whole : length now ≡ 32

pub marked_start : (image map : List ℕ) → length map ≡ 32 → Bytes map → MarkedTo image map map 0
marked_start image map long b = record { marks = refl; left = refl; spare = refl; bytes = b; whole = long }

pub marked_end : (image map now : List ℕ) (i : ℕ) → length map ≡ 32 → i ≡ 126 → MarkedTo image map now i
    → HasStates map (walk zero Erased (states_of map) (entries_of image)) now
marked_end image map now i long e to =
    let fits : length (states_of now) ≤ i = omega (arith, length-states_of now to.whole) in
    let none = states_past map i long (omega arith) in
    let all = take_all i (states_of now) fits in
    record { states_are = sym (append-nil (states_of now)) ∙ (rw (none, all) at to.marks); spare = to.spare }

drop_further : {A : Type 0} (xs ys : List A) (i j : ℕ) → i ≤ j → drop i xs ≡ drop i ys → drop j xs ≡ drop j ys
drop_further xs ys i j h e =
    let there : i + (j - i) ≡ j = omega arith in
    ap (λ (n : ℕ). drop n xs) (sym there) ∙ sym (drop-drop (j - i) i xs)
    ∙ ap (drop (j - i)) e
    ∙ drop-drop (j - i) i ys ∙ ap (λ (n : ℕ). drop n ys) there

module _ (image map now : List ℕ) (i : ℕ) (long : length map ≡ 32) (inside : i < 126) (to : MarkedTo image map now i) where
  -- a map that has the walk's marks at i and at what it covers, and is as it was elsewhere
  marked_next : (v : Verdict) (next : List ℕ) → verdict_of image map i ≡ v
      → take i (states_of next) ≡ take i (states_of now)
      → take (suc (steps_over v)) (drop i (states_of next)) ≡ mark_of (state_at map i) v ∷ replicate (steps_over v) (mark_behind v)
      → drop (i + 1 + steps_over v) (states_of next) ≡ drop (i + 1 + steps_over v) (states_of now)
      → drop entries_per_page (unpack next) ≡ drop entries_per_page (unpack now) → Bytes next → length next ≡ 32
      → MarkedTo image map next (i + 1 + steps_over v)
  marked_next v next e before within behind spare bytes whole =
      let j = i + 1 + steps_over v in
      let there : i + suc (steps_over v) ≡ j = omega arith in
      record {
        marks =
            forward (states_of now) (states_of next) (mark_of (state_at map i) v ∷ replicate (steps_over v) (mark_behind v))
            (walk zero Erased (drop j (states_of map)) (drop j (entries_of image)))
            (walk zero Erased (drop i (states_of map)) (drop i (entries_of image))) (walk zero Erased (states_of map) (entries_of image))
            i (suc (steps_over v)) j there before within (rw e at (walk_from image map i long inside)) to.marks;
        left = behind ∙ drop_further (states_of now) (states_of map) i j (omega arith) to.left;
        spare = spare ∙ to.spare;
        bytes = bytes;
        whole = whole;
      }

  -- n entries from i on are marked
  marked_range : (v : Verdict) (s : EntryMapState) (n : ℕ) → verdict_of image map i ≡ v → n ≡ suc (steps_over v)
      → take n (marked s zero n (drop i (states_of map))) ≡ mark_of (state_at map i) v ∷ replicate (steps_over v) (mark_behind v)
      → MarkedTo image map (mark_range s i n now) (i + 1 + steps_over v)
  marked_range v s n e long' marks =
      let states = states_of-mark_range s i n to.bytes in
      let fits : i + steps_over v < 126 = rw e at (steps_inside image map i long inside) in
      marked_next v (mark_range s i n now) e
      (rw states (take_marked s i n (states_of now) i (le_refl i)))
      (rw (states, drop_marked_from s i n (states_of now), to.left, ← long') marks)
      (rw states (drop_marked s i n (states_of now) (i + 1 + steps_over v) (omega arith)))
      (rw (unpack-mark_range s i n to.bytes) (drop_marked s i n (unpack now) 126 (omega arith)))
      (bytes_mark_range s i n to.bytes)
      (length-mark_range s i n now ∙ to.whole)

  pub marked_step : (v : Verdict) → verdict_of image map i ≡ v → MarkedTo image map (marked_by v i now) (i + 1 + steps_over v)
  marked_step NotAnItem e = marked_next NotAnItem now e refl (rw (to.left, states_from map i long inside)) refl refl to.bytes to.whole
  marked_step (RefusedEntry reason) e =
      let here : 1 ≤ length (drop i (states_of map)) = rw (states_from map i long inside) (omega arith) in
      marked_range (RefusedEntry reason) Erased 1 e refl (take_erased 1 (drop i (states_of map)) here)
  marked_step (RefusedItem reason k) e =
      let fits : i + k < 126 = rw e at (steps_inside image map i long inside) in
      let here : suc k ≤ length (drop i (states_of map)) = rw (length-drop i (states_of map), length-states_of map long) (omega arith) in
      marked_range (RefusedItem reason k) Erased (k + 1) e (add-one k) (rw (add-one k) (take_erased (suc k) (drop i (states_of map)) here))
  marked_step (Kept k) e =
      let fits : i + k < 126 = rw e at (steps_inside image map i long inside) in
      let kept = kept_usable (state_at map i) (entry_at image i) (drop (i + 1) (states_of map)) (drop (i + 1) (entries_of image)) k e in
      let behind : k ≤ length (drop (i + 1) (states_of map)) = rw (states_behind image map i long inside) (omega arith) in
      marked_range (Kept k) Written (k + 1) e (add-one k)
      (rw (add-one k, states_from map i long inside, kept.0)
      (ap (λ (rest : List EntryMapState). Written ∷ rest) (marked_usable k (drop (i + 1) (states_of map)) behind kept.1)))

-- ---- refused headers

refused_headers_skip : (k : ℕ) (states : List EntryMapState) (entries : List (List ℕ)) → k ≤ length states → k ≤ length entries
    → refused_headers k states entries ≡ replicate k false ++ refused_headers zero (drop k states) (drop k entries)
refused_headers_skip zero states entries h g = refl
refused_headers_skip (suc k) [] entries h g = absurd (not-suc-le-zero h)
refused_headers_skip (suc k) (s ∷ states) [] h g = absurd (not-suc-le-zero g)
refused_headers_skip (suc k) (s ∷ states) (entry ∷ entries) h g =
    ap (λ (rest : List Bool). false ∷ rest) (refused_headers_skip k states entries (le_of_suc-le-suc h) (le_of_suc-le-suc g))

headers_from : (image map : List ℕ) (i : ℕ) → length map ≡ 32 → i < 126
    → let v = verdict_of image map i in
    refused_headers zero (drop i (states_of map)) (drop i (entries_of image))
    ≡ (is_refused_item v ∷ replicate (steps_over v) false)
    ++ refused_headers zero (drop (i + 1 + steps_over v) (states_of map)) (drop (i + 1 + steps_over v) (entries_of image))
headers_from image map i long inside =
    let v = verdict_of image map i in
    here image map i long inside (refused_headers zero)
    ∙ ap (λ (rest : List Bool). is_refused_item v ∷ rest)
    (refused_headers_skip (steps_over v) (drop (i + 1) (states_of map)) (drop (i + 1) (entries_of image))
    (steps_states image map i long inside) (steps_entries image map i long inside)
    ∙ after image map i long inside (λ ss es. replicate (steps_over v) false ++ refused_headers zero ss es) (steps_over v))

pub record HeadsTo (image map : List ℕ) (heads : List Bool) (i : ℕ) : Type 0 where
  pub marks : take i heads ++ refused_headers zero (drop i (states_of map)) (drop i (entries_of image))
      ≡ refused_headers zero (states_of map) (entries_of image)
  pub left : drop i heads ≡ replicate (126 - i) false
  pub whole : length heads ≡ 126

pub heads_start : (image map : List ℕ) → HeadsTo image map (replicate 126 false) 0
heads_start image map = record { marks = refl; left = refl; whole = refl }

pub heads_end : (image map : List ℕ) (heads : List Bool) (i : ℕ) → length map ≡ 32 → i ≡ 126 → HeadsTo image map heads i
    → heads ≡ refused_headers zero (states_of map) (entries_of image)
heads_end image map heads i long e to =
    let whole = to.whole in
    let none = states_past map i long (omega arith) in
    let all = take_all i heads (omega arith) in
    sym (append-nil heads) ∙ (rw (none, all) at to.marks)

-- a store at i, where all from i on was false
drop_stored : (heads : List Bool) (i : ℕ) (head : Bool) → i < 126 → drop i heads ≡ replicate (126 - i) false
    → drop i (set heads i head) ≡ head ∷ replicate (125 - i) false
drop_stored heads i head inside left =
    let more : 126 - i ≡ suc (125 - i) = omega arith in
    (rw add-zero at (drop-set-add i heads 0 head)) ∙ rw (left, more)

pub heads_step : (image map : List ℕ) (heads : List Bool) (i : ℕ) → length map ≡ 32 → i < 126 → HeadsTo image map heads i
    → HeadsTo image map (set heads i (is_refused_item (verdict_of image map i))) (i + 1 + steps_over (verdict_of image map i))
heads_step image map heads i long inside to =
    let head = is_refused_item (verdict_of image map i) in
    let k = steps_over (verdict_of image map i) in
    let j = i + 1 + k in
    let fits = steps_inside image map i long inside in
    let there : i + suc k ≡ j = omega arith in
    let stored = drop_stored heads i head inside to.left in
    let within : take (suc k) (drop i (set heads i head)) ≡ head ∷ replicate k false =
    rw stored (ap (λ (rest : List Bool). head ∷ rest) (take_replicate k (125 - i) false (omega arith))) in
    let behind : drop (suc k) (drop i (set heads i head)) ≡ replicate (125 - i - k) false =
    rw stored (drop_replicate k (125 - i) false) in
    let less : 125 - i - k ≡ 126 - j = omega arith in
    record {
      marks =
          forward heads (set heads i head) (head ∷ replicate k false) (refused_headers zero (drop j (states_of map)) (drop j (entries_of image)))
          (refused_headers zero (drop i (states_of map)) (drop i (entries_of image))) (refused_headers zero (states_of map) (entries_of image))
          i (suc k) j there (take-set-le i heads i head (le_refl i)) within (headers_from image map i long inside) to.marks;
      left = ap (λ (n : ℕ). drop n (set heads i head)) (sym there) ∙ sym (drop-drop (suc k) i (set heads i head)) ∙ behind ∙ ap (λ (n : ℕ). replicate n false) less;
      whole = length-set heads i head ∙ to.whole;
    }

-- ---- the list

-- up to i the kept items outside namespace 0 are listed, and those from i on are left
pub record ListedTo (image map : List ℕ) (places : List Listed) (i : ℕ) : Type 0 where
  pub done : places ++ listed_items (kept_from zero i (drop i (states_of map)) (drop i (entries_of image)))
      ≡ listed_items (kept_from zero zero (states_of map) (entries_of image))
  pub within : length places ≤ i

pub listed_start : (image map : List ℕ) → ListedTo image map [] 0
listed_start image map = record { done = refl; within = le_refl 0 }

pub listed_end : (image map : List ℕ) (places : List Listed) (i : ℕ) → length map ≡ 32 → i ≡ 126 → ListedTo image map places i
    → places ≡ listed_items (kept_from zero zero (states_of map) (entries_of image))
listed_end image map places i long e to =
    let none = states_past map i long (omega arith) in
    sym (append-nil places) ∙ (rw none at to.done)

module _ (image map : List ℕ) (places : List Listed) (i : ℕ) (long : length map ≡ 32) (inside : i < 126) (to : ListedTo image map places i) where
  -- nothing is listed at i
  listed_same : (v : Verdict) → verdict_of image map i ≡ v
      → listed_items (kept_from zero i (drop i (states_of map)) (drop i (entries_of image)))
      ≡ listed_items (kept_from zero (i + 1 + steps_over v) (drop (i + 1 + steps_over v) (states_of map)) (drop (i + 1 + steps_over v) (entries_of image)))
      → ListedTo image map places (i + 1 + steps_over v)
  listed_same v e same =
      let within = to.within in
      record { done = ap (λ (left : List Listed). places ++ left) (sym same) ∙ to.done; within = omega arith }

  listed_kept : (k : ℕ) → verdict_of image map i ≡ Kept k → (zeroth : Bool) → eqb (namespace_of (entry_at image i)) 0 ≡ zeroth
      → ListedTo image map (with_listed i (entry_at image i) places) (i + 1 + k)
  listed_kept k e true plain = rw plain (listed_same (Kept k) e (ap listed_items (rw e at (kept_from_lem image map i long inside)) ∙ rw plain))
  listed_kept k e false named =
      let place : Listed = record { hash = hash_of_item (entry_at image i); index = i } in
      let rest = listed_items (kept_from zero (i + 1 + k) (drop (i + 1 + k) (states_of map)) (drop (i + 1 + k) (entries_of image))) in
      let within = to.within in
      let left : listed_items (kept_from zero i (drop i (states_of map)) (drop i (entries_of image))) ≡ place ∷ rest =
      ap listed_items (rw e at (kept_from_lem image map i long inside)) ∙ rw named in
      rw named
      record {
        done = append_assoc places (place ∷ []) rest ∙ ap (λ (back : List Listed). places ++ back) (sym left) ∙ to.done;
        within = omega (arith, length-append places (place ∷ []));
      }

  pub listed_step : (v : Verdict) → verdict_of image map i ≡ v → ListedTo image map (listed_by v i (entry_at image i) places) (i + 1 + steps_over v)
  listed_step NotAnItem e = listed_same NotAnItem e (ap listed_items (rw e at (kept_from_lem image map i long inside)))
  listed_step (RefusedEntry reason) e = listed_same (RefusedEntry reason) e (ap listed_items (rw e at (kept_from_lem image map i long inside)))
  listed_step (RefusedItem reason k) e = listed_same (RefusedItem reason k) e (ap listed_items (rw e at (kept_from_lem image map i long inside)))
  listed_step (Kept k) e = listed_kept k e (eqb (namespace_of (entry_at image i)) 0) refl
