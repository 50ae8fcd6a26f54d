-- A write begun on a page that stands, cut in one of its phases: entry bytes, marks, state word.
--
-- In order: what a write is, whatever call makes it; what the reading keeps, whatever the header; the images between the phases; a map with some of
-- the marks; what a cut leaves of the page in each phase; what is kept of it; the page that the whole write leaves.
use mathlib.Core.Path.{◌≡◌, refl, sym, ap, ap₂, ◌∙◌, subst}
use mathlib.Core.Bool.{Bool, true, false, cond}
use mathlib.Core.List.{List, [], ◌∷◌, ◌++◌, append_assoc, append-nil}
use Prim.Native.Nat.{ℕ, zero, suc, ◌+◌, ◌-◌, ◌*◌, ◌/◌, ◌≤◌, ◌<◌}
use native.Mathlib.Omega.{arith}
use lib.Dec.{eqb}
use lib.ListN.{length, take, get_or, replicate, replicate-append-replicate, length-append, length-replicate}
use lib.Seq.{get_or-append_seam}
use Rattle.flash.specs.Flash.{Unit4, units, run, every, Between, CutAt}
use Rattle.flash.proofs.Laws.{Bytes, bytes_run, Within, within_nil, run_inside, run_append, length_run, length_clears, clears_refl, clears_run, within_units}
use Rattle.flash.proofs.Cuts.{between_front, between_ends, between_new, after_front, before_back, cut_between, of_first, of_second, CutInto, cut_append, whole_in_first}
use Rattle.sector.specs.declared.EntryMapState.{EntryMapState}
use Rattle.sector.specs.declared.EntryMapState.TheVariants.{Empty, Written}
use Rattle.sector.specs.declared.PageState.TheVariants.{Full}
use Rattle.sector.specs.Header.{state_bytes}
use Rattle.sector.specs.Layout.{chunks, entry_address, map_of}
use Rattle.sector.specs.Map.{states_of, mark_range, map_units}
use Rattle.sector.proofs.Laws.{length-mark_range}
use Rattle.sector.proofs.Marks.{marked, marked_at, marked_empty, clears_mark_range, map_of_parts, map_front, state_front, run-map_units, first_map_unit, states_of-mark_range}
use Rattle.page.specs.Writing.{full_units, item_plan}
use Rattle.opening_reading.specs.Reading.{is_usable, Item, item, kept_from}
use Rattle.opening_found.specs.Found.{kept_items}
use Rattle.opening_reading.proofs.Verdicts.{States, Entries, Whole}
use Rattle.theorem_writing.proofs.FitRecords.{every_replicate}
use Rattle.theorem_reopening.proofs.Closed.{closed_append_item}
use Rattle.theorem_reopening.proofs.Cuts.{Marking, kept_unmarked, kept_marked}
use Rattle.theorem_reopening.proofs.Mixed.{the_old, the_new, Mix, mix_nil, mix_cons, length_mix, mix_same, mix_append, writes, Steps, steps_nil, steps_cons, steps_same, steps_append, between_states}
use Rattle.theorem_power_cut.proofs.Chunks.{chunks_append}
use Rattle.theorem_power_cut.proofs.Standing.{Standing, entries_two, standing_map_bytes, front_bytes, regroup}

-- ---- a write

-- the entries of a whole item, the units that lay their bytes, and that they do so on a page that stands
pub record Lays {image : List ℕ} {items : List Item} (p : Standing image items) (entry : List ℕ) (new : Entries) (us : List Unit4) : Type 0 where
  pub laid : List ℕ
  pub laid_size : length laid ≡ 32 * suc (length new)
  pub laid_entries : chunks (suc (length new)) laid ≡ entry ∷ new
  pub whole : Whole entry (length new) new
  pub room : suc (length new) ≤ p.spare
  pub within : Within (entry_address (length p.front)) (entry_address (length p.front + suc (length new))) us
  pub does : run us image ≡ p.header ++ (p.map ++ (p.used ++ (laid ++ replicate (32 * (p.spare - suc (length new))) 0xFF)))

-- ---- what the reading keeps, whatever the header

module _ {image : List ℕ} {items : List Item} (p : Standing image items) where
  -- with any bytes after the entries in use
  pub kept_any : (header rest : List ℕ) → length header ≡ 32 → kept_items (header ++ (p.map ++ (p.used ++ rest))) ≡ items
  unfolding kept_items
  kept_any header rest h =
      ap₂ (kept_from zero zero)
      (ap states_of (map_of_parts header p.map (p.used ++ rest) h p.map_size_lem) ∙ p.states)
      (entries_two header p.map p.used rest (length p.front) p.spare h p.map_size_lem p.used_size p.sum)
      ∙ kept_unmarked p.closed p.spare (chunks p.spare rest)
      ∙ p.kept

-- ---- the units of a write

-- the state word lies in the header
pub within_full : (end : ℕ) → Within 0 4 (full_units end)
within_full end = by_test (eqb end 126)
  where
    by_test : (last : Bool) → Within 0 4 (cond last (units 0 (state_bytes Full)) [])
    by_test true = within_units 0 (state_bytes Full)
    by_test false = within_nil

-- ---- marks of Empty entries

steps_written : (k : ℕ) → Steps (replicate k Empty) (replicate k Written)
steps_written zero = steps_nil
steps_written (suc k) = steps_cons writes (steps_written k)

mix_usable : (k : ℕ) {mid : States} → Mix (replicate k Empty) (replicate k Written) mid → every is_usable mid ≡ true
mix_usable zero mix_nil = refl
mix_usable (suc k) (mix_cons the_old m) = mix_usable k m
mix_usable (suc k) (mix_cons the_new m) = mix_usable k m

module _ {image : List ℕ} {items : List Item} (p : Standing image items) {entry : List ℕ} {new : Entries} {us : List Unit4} (w : Lays p entry new us) where
  abbrev start : ℕ
  start = length p.front

  abbrev span : ℕ
  span = suc (length new)

  abbrev left : ℕ
  left = p.spare - span

  spare_split : p.spare ≡ span + left
  spare_split = omega (arith, w.room)

  states_before_lem : states_of p.map ≡ p.front ++ (replicate span Empty ++ replicate left Empty)
  states_before_lem =
      p.states ∙ ap (λ (n : ℕ). p.front ++ replicate n Empty) spare_split
      ∙ ap (λ (tail : States). p.front ++ tail) (sym (replicate-append-replicate span left Empty))

  -- all marks set
  pub marked_states : marked Written start span (states_of p.map) ≡ p.front ++ (replicate span Written ++ replicate left Empty)
  marked_states =
      ap (marked Written start span) states_before_lem
      ∙ marked_at Written p.front (replicate span Empty ++ replicate left Empty) span
      ∙ ap (λ (tail : States). p.front ++ tail) (marked_empty Written span (replicate left Empty))

  -- ---- the images between the phases

  abbrev behind : List ℕ
  behind = replicate (32 * left) 0xFF

  -- the entries with the item laid
  abbrev entries_laid_in : List ℕ
  entries_laid_in = p.used ++ (w.laid ++ behind)

  -- header, map, and those entries
  abbrev laid_in : List ℕ → List ℕ → List ℕ
  laid_in header map = header ++ (map ++ entries_laid_in)

  inside : start + span ≤ 126
  inside = omega (arith, w.room, p.sum)

  abbrev pub map' : List ℕ
  map' = mark_range Written start span p.map

  pub map'_size : length map' ≡ 32
  map'_size = length-mark_range Written start span p.map ∙ p.map_size_lem

  abbrev marks : List Unit4
  marks = map_units start span map'

  abbrev full : List Unit4
  full = full_units (start + span)

  abbrev pub plan : List Unit4
  plan = item_plan us start span p.map

  abbrev pub header_after : List ℕ
  header_after = run full p.header

  pub header_after_size : length header_after ≡ 32
  header_after_size = length_run full p.header ∙ p.header_size

  -- with the marks in
  run_marks : run marks (run us image) ≡ laid_in p.header map'
  run_marks =
      ap (run marks) w.does
      ∙ run-map_units Written start span p.header p.map entries_laid_in p.header_size p.map_size_lem
      (subst Bytes w.does (bytes_run us p.bytes)) (omega arith) (omega (arith, inside))

  -- and with the state word in
  run_full : run full (run marks (run us image)) ≡ laid_in header_after map'
  run_full =
      ap (run full) run_marks
      ∙ run_inside p.header (map' ++ entries_laid_in) (within_full (start + span)) (omega (arith, p.header_size))

  -- ---- a map with some of the marks

  -- the header's state, and those of the entries that it covers, each marked or still Empty
  pub record SomeMarks (map : List ℕ) : Type 0 where
    pub mark : EntryMapState
    pub mixed : States
    pub states_are : states_of map ≡ p.front ++ (mark ∷ mixed ++ replicate left Empty)
    pub covers : length mixed ≡ length new
    pub started : every is_usable mixed ≡ true

  pub states_marked : states_of map' ≡ p.front ++ (replicate span Written ++ replicate left Empty)
  states_marked = states_of-mark_range Written start span (standing_map_bytes p) ∙ marked_states

  some_marks : {map : List ℕ} → Between p.map map map' → SomeMarks map
  some_marks {map} b =
      let steps = steps_append (steps_same p.front) (steps_append (steps_written span) (steps_same (replicate left Empty))) in
      let all = mix_append p.front p.front refl (between_states (standing_map_bytes p) steps b states_before_lem states_marked) in
      let long : length (replicate span Empty) ≡ length (replicate span Written) = length-replicate span Empty ∙ sym (length-replicate span Written) in
      let after = mix_append (replicate span Empty) (replicate span Written) long all.rest_mix in
      by_marks after.first_mix
      (all.split ∙ ap₂ (λ (xs ys : States). xs ++ ys) (mix_same all.first_mix)
      (after.split ∙ ap (λ (rest : States). after.first ++ rest) (mix_same after.rest_mix)))
    where
      by_marks : {marks : States} → Mix (replicate span Empty) (replicate span Written) marks
          → states_of map ≡ p.front ++ (marks ++ replicate left Empty) → SomeMarks map
      by_marks (mix_cons {m = mark} {mid = mixed} o m) e =
          record {
            mark = mark;
            mixed = mixed;
            states_are = e;
            covers = length_mix m ∙ length-replicate (length new) Empty;
            started = mix_usable (length new) m;
          }

  -- once its byte is as the whole mark leaves it, the header is Written
  header_written : {map : List ℕ} (s : SomeMarks map) → take (4 * (start / 16) + 4) map ≡ take (4 * (start / 16) + 4) map' → s.mark ≡ Written
  header_written {map} s e =
      sym (get_or-append_seam p.front s.mark (s.mixed ++ replicate left Empty) Empty)
      ∙ ap (λ (states : States). get_or states start Empty) (sym s.states_are)
      ∙ state_front (4 * (start / 16) + 4) start map map' Empty e (omega arith) (omega (arith, inside))
      ∙ ap (λ (states : States). get_or states start Empty) states_marked
      ∙ get_or-append_seam p.front Written (replicate (length new) Written ++ replicate left Empty) Empty

  -- ---- what a cut leaves

  -- in the entry bytes: what lies before the blank entries is as it was
  pub record BytesBegun (cut : List ℕ) : Type 0 where
    pub rest : List ℕ
    pub split : cut ≡ p.header ++ (p.map ++ (p.used ++ rest))

  bytes_cut : {cut : List ℕ} → Between image cut (run us image) → BytesBegun cut
  bytes_cut b =
      let blanks : List ℕ = replicate (32 * p.spare) 0xFF in
      let after = after_front (front_bytes p)
      (between_ends (p.split ∙ sym (regroup p blanks)) (w.does ∙ sym (regroup p (w.laid ++ behind))) b) in
      record { rest = after.rest; split = after.split ∙ regroup p after.rest }

  -- from the first unit of the map on: the item is laid, its header is marked, and the state word is in or not
  pub record MarksBegun (cut : List ℕ) : Type 0 where
    pub header : List ℕ
    pub map : List ℕ
    pub split : cut ≡ laid_in header map
    pub header_between : Between p.header header header_after
    pub map_size_lem : length map ≡ 32
    pub some : SomeMarks map
    pub written : some.mark ≡ Written

  -- in the marks
  marks_cut : {cut : List ℕ} (j : ℕ) → 1 ≤ j → CutAt marks (run us image) j cut → MarksBegun cut
  marks_cut {cut} j h c =
      let after = after_front p.header (between_ends w.does run_marks (cut_between marks (run us image) j c)) in
      let same = before_back p.map map' (p.map_size_lem ∙ sym map'_size) after.between in
      let map = same.first in
      let split : cut ≡ laid_in p.header map = after.split ∙ ap (λ (rest : List ℕ). p.header ++ rest) same.split in
      let size : length map ≡ 32 = length_clears same.between.begun ∙ p.map_size_lem in
      let far = 32 + 4 * (start / 16) + 4 in
      let first : take far cut ≡ take far (laid_in p.header map') =
      between_front far (first_map_unit start span map' (run us image) j h ∙ sym (first_map_unit start span map' (run us image) (suc j) (omega arith))) c
      ∙ first_map_unit start span map' (run us image) (suc j) (omega arith) ∙ ap (take far) run_marks in
      let parts : far ≡ 32 + (4 * (start / 16) + 4) = omega arith in
      let front = map_front (4 * (start / 16) + 4) cut (laid_in p.header map') (omega (arith, inside)) (rw parts at first) in
      let some = some_marks same.between in
      record {
        header = p.header;
        map = map;
        split = split;
        header_between = record { begun = clears_refl p.header; left = clears_run full p.header };
        map_size_lem = size;
        some = some;
        written =
            header_written some
            (ap (take (4 * (start / 16) + 4)) (sym (map_of_parts p.header map entries_laid_in p.header_size size) ∙ ap map_of (sym split))
            ∙ front
            ∙ ap (take (4 * (start / 16) + 4)) (map_of_parts p.header map' entries_laid_in p.header_size map'_size));
      }

  -- in the state word
  full_cut : {cut : List ℕ} → Between (run marks (run us image)) cut (run full (run marks (run us image))) → MarksBegun cut
  full_cut b =
      let same = before_back p.header header_after (p.header_size ∙ sym header_after_size) (between_ends run_marks run_full b) in
      let some = some_marks (between_new (clears_mark_range Written start span p.map)) in
      record {
        header = same.first;
        map = map';
        split = same.split;
        header_between = same.between;
        map_size_lem = map'_size;
        some = some;
        written = header_written some refl;
      }

  marks_or_full : {cut : List ℕ} (j : ℕ) → 1 ≤ j → CutAt (marks ++ full) (run us image) j cut → MarksBegun cut
  marks_or_full {cut} j h c = by_phase (cut_append marks full (run us image) j c)
    where
      by_phase : CutInto marks full (run us image) j cut → MarksBegun cut
      by_phase (of_first l c) = marks_cut j h c
      by_phase (of_second l c) = full_cut (cut_between full (run marks (run us image)) (j - length marks) c)

  -- up to the last entry unit, whole units
  pub bytes_begun : (n : ℕ) → n ≤ length us → BytesBegun (run (take n plan) image)
  unfolding item_plan
  bytes_begun n h = bytes_cut (whole_in_first us (marks ++ full) image n h)

  -- from the first unit of the map on, inside a unit too
  pub marks_begun : {cut : List ℕ} (n : ℕ) → length us < n → CutAt plan image n cut → MarksBegun cut
  unfolding item_plan
  marks_begun {cut} n h c = by_phase (cut_append us (marks ++ full) image n c)
    where
      by_phase : CutInto us (marks ++ full) image n cut → MarksBegun cut
      by_phase (of_first l c) = absurd (omega arith)
      by_phase (of_second l c) = marks_or_full (n - length us) (omega arith) c

  -- ---- what is kept

  -- before the first mark the earlier items
  pub kept_before : {cut : List ℕ} → BytesBegun cut → kept_items cut ≡ items
  kept_before b = ap kept_items b.split ∙ kept_any p p.header b.rest p.header_size

  entries_laid : chunks p.spare (w.laid ++ behind) ≡ entry ∷ new ++ chunks left behind
  entries_laid =
      ap (λ (n : ℕ). chunks n (w.laid ++ behind)) spare_split
      ∙ chunks_append span left w.laid behind w.laid_size
      ∙ ap (λ (first : Entries). first ++ chunks left behind) w.laid_entries

  pub header_size : {cut : List ℕ} (m : MarksBegun cut) → length m.header ≡ 32
  header_size m = length_clears m.header_between.begun ∙ p.header_size

  -- from it on those and the new one
  pub kept_after : {cut : List ℕ} → MarksBegun cut → kept_items cut ≡ items ++ (item start (entry ∷ new) ∷ [])
  unfolding kept_items
  kept_after m =
      let mixed = m.some.mixed in
      let marking : Marking entry mixed new = record { whole = w.whole; covers = m.some.covers; started = m.some.started } in
      ap kept_items m.split
      ∙ ap₂ (kept_from zero zero)
      (ap states_of (map_of_parts m.header m.map entries_laid_in (header_size m) m.map_size_lem) ∙ m.some.states_are
      ∙ ap (λ (mark : EntryMapState). p.front ++ (mark ∷ mixed ++ replicate left Empty)) m.written)
      (entries_two m.header m.map p.used (w.laid ++ behind) start p.spare (header_size m) m.map_size_lem p.used_size p.sum
      ∙ ap (λ (tail : Entries). chunks start p.used ++ tail) entries_laid)
      ∙ kept_marked p.closed marking left (chunks left behind)
      ∙ ap (λ (earlier : List Item). earlier ++ (item start (entry ∷ new) ∷ [])) p.kept

  -- ---- the page that the whole write leaves

  abbrev front' : States
  front' = p.front ++ replicate span Written

  pub front'_size : length front' ≡ start + span
  front'_size = length-append p.front (replicate span Written) ∙ ap (λ (n : ℕ). start + n) (length-replicate span Written)

  pub run_plan : run plan image ≡ header_after ++ (map' ++ ((p.used ++ w.laid) ++ behind))
  unfolding item_plan
  run_plan =
      run_append us (marks ++ full) image
      ∙ run_append marks full (run us image)
      ∙ run_full
      ∙ ap (λ (entries : List ℕ). header_after ++ (map' ++ entries)) (sym (append_assoc p.used w.laid behind))

  pub entries' : chunks (length front') (p.used ++ w.laid) ≡ chunks start p.used ++ (entry ∷ new)
  entries' =
      ap (λ (n : ℕ). chunks n (p.used ++ w.laid)) front'_size
      ∙ chunks_append start span p.used w.laid p.used_size
      ∙ ap (λ (last : Entries). chunks start p.used ++ last) w.laid_entries

  pub kept' : kept_from zero zero front' (chunks start p.used ++ (entry ∷ new)) ≡ items ++ (item start (entry ∷ new) ∷ [])
  kept' =
      let marking : Marking entry (replicate (length new) Written) new =
      record { whole = w.whole; covers = length-replicate (length new) Written; started = every_replicate is_usable (length new) Written refl } in
      (rw (append-nil (replicate (length new) Written), append-nil new) at (kept_marked p.closed marking 0 []))
      ∙ ap (λ (earlier : List Item). earlier ++ (item start (entry ∷ new) ∷ [])) p.kept

  unfoldable pub standing_after : Standing (run plan image) (items ++ (item start (entry ∷ new) ∷ []))
  standing_after =
      record {
        header = header_after;
        map = map';
        used = p.used ++ w.laid;
        front = front';
        spare = left;
        split = run_plan;
        header_size = header_after_size;
        map_size_lem = map'_size;
        used_size = omega (arith, length-append p.used w.laid, p.used_size, w.laid_size, front'_size);
        sum = omega (arith, front'_size, p.sum, w.room);
        bytes = bytes_run plan p.bytes;
        states =
            states_marked
            ∙ sym (append_assoc p.front (replicate span Written) (replicate left Empty));
        closed = rw entries' (closed_append_item p.closed w.whole);
        kept = rw entries' kept';
      }
