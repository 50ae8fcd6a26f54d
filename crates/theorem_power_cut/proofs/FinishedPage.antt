-- The page that initialise finishes: it stands, with no item on it, its header opens, and opening reads the record that initialise handed back.
--
-- In order: the finished page; a record that is fit and Uninitialized; any call that is done.
use mathlib.Core.Path.{◌≡◌, refl, sym, ap, ap₂, ◌∙◌, subst}
use mathlib.Core.Bool.{true, not, and-eq-true_iff}
use mathlib.Core.List.{List, [], ◌∷◌, ◌++◌}
use mathlib.Core.Logic.{inl}
use Prim.Native.Nat.{ℕ, ◌≤◌, ◌<◌}
use lib.Dec.{eqb}
use lib.ListN.{length, replicate}
use lib.Seq.{take_all}
use borrow.Author.Tests.{eqb-true, eq-eqb, ltb-false, not-false}
use Rattle.crc.specs.Crc.{crc32}
use Rattle.crc.proofs.Laws.{crc_lt}
use Rattle.flash.specs.Flash.{Unit4, run, every, all_ones}
use Rattle.flash.proofs.Laws.{Bytes, bytes_append, bytes_ones, replicate-all_ones}
use Rattle.page.specs.declared.Listed.{Listed}
use Rattle.page.specs.Record.{Page, no_item, place_zero, is_blank, fit_to_use, uninitialized}
use Rattle.page.specs.Writing.{answered, outcome, stops}
use Rattle.page.proofs.Checks.{accepted_usable}
use Rattle.page.proofs.Laws.{fit_clauses}
use Rattle.sector.specs.declared.Refusal.TheVariants.{CorruptedData}
use Rattle.sector.specs.declared.PageState.TheVariants.{Active}
use Rattle.sector.specs.Header.{state_of_word, header_crc, header_body, header_bytes, is_uninitialized}
use Rattle.sector.specs.Item.{crc_start}
use Rattle.sector.specs.Layout.{chunks, state_word, sequence_of, version_of, stored_header_crc}
use Rattle.sector.specs.Map.{count_in}
use Rattle.sector.proofs.Laws.{number-little_endian}
use Rattle.call_page_state.specs.Calls.{initialise_checks, initialise_plan, initialised, initialise, initialise_image}
use Rattle.opening_found.specs.Found.{kept_items}
use Rattle.opening.specs.Opening.{opening, opening_image}
use Rattle.theorem_writing.specs.Promises.{AsInCode}
use Rattle.theorem_reopening.proofs.Closed.{closed_nil}
use Rattle.theorem_power_cut.specs.PowerCut.{FinishedPageOpens}
use Rattle.theorem_power_cut.proofs.Accepted.{begins_accepted, done_whole}
use Rattle.theorem_power_cut.proofs.Headers.{HeaderOpens, image_opens}
use Rattle.theorem_power_cut.proofs.Held.{Held}
use Rattle.theorem_power_cut.proofs.Standing.{Standing, standing_kept}
use Rattle.theorem_power_cut.proofs.InitialiseCut.{header_long, header_bytes_lem, image_after_lem, run_header}
use Rattle.theorem_power_cut.proofs.Demand.{held_opening, held_image}
use Rattle.sector.specs.Answers.{Done}

-- ---- the finished page

module _ (sequence : ℕ) (small : sequence < 0x1_0000_0000) where
  abbrev header : List ℕ
  header = header_bytes sequence

  abbrev finished : List ℕ
  finished = run (initialise_plan sequence) (replicate 4096 0xFF)

  behind : finished ≡ header ++ (replicate 32 0xFF ++ replicate 4032 0xFF)
  behind = run_header sequence

  standing : Standing finished []
  unfolding chunks
  standing =
      record {
        header = header;
        map = replicate 32 0xFF;
        used = [];
        front = [];
        spare = 126;
        split = behind;
        header_size = header_long sequence;
        map_size_lem = refl;
        used_size = refl;
        sum = refl;
        bytes = subst Bytes (sym behind) (bytes_append (header_bytes_lem sequence) (bytes_ones 4064));
        states = refl;
        closed = closed_nil;
        kept = refl;
      }

  abbrev crc : ℕ
  crc = crc32 crc_start (header_body sequence)

  crc_read : stored_header_crc header ≡ crc
  unfolding header_bytes
  crc_read = number-little_endian 4 crc (crc_lt crc_start (header_body sequence))

  sequence_read : sequence_of header ≡ sequence
  unfolding header_bytes
  sequence_read = number-little_endian 4 sequence small

  state_read : state_of_word (state_word header) ≡ Active
  unfolding header_bytes state_of_word
  state_read = refl

  version_read : version_of header ≡ 0xFE
  unfolding header_bytes
  version_read = refl

  header_opens : HeaderOpens header
  unfolding header_bytes state_of_word header_crc
  header_opens = record { state = refl; version = refl; crc = eq-eqb crc (stored_header_crc header) (sym crc_read) }

  pub finished_held : Held finished (initialised uninitialized sequence) []
  unfolding standing initialised count_in
  finished_held =
      record {
        standing = standing;
        opens = subst HeaderOpens (sym behind) (image_opens header (replicate 32 0xFF ++ replicate 4032 0xFF) (header_long sequence) header_opens);
        page_is = rw (state_read, sequence_read, version_read, crc_read);
      }

-- ---- a record that is fit and Uninitialized

zero_place : (place : Listed) → place_zero place ≡ true → place ≡ no_item
zero_place place e =
    let both = (and-eq-true_iff (eqb place.index 0) (eqb place.hash 0)).0 e in
    ap₂ (λ (hash index : ℕ). record { hash = hash; index = index }) (eqb-true place.hash 0 both.1) (eqb-true place.index 0 both.0)

zero_list : (list : List Listed) → every place_zero list ≡ true → list ≡ replicate (length list) no_item
zero_list [] e = refl
zero_list (place ∷ list) e =
    let both = (and-eq-true_iff (place_zero place) (every place_zero list)).0 e in
    ap₂ (λ (first : Listed) (rest : List Listed). first ∷ rest) (zero_place place both.0) (zero_list list both.1)

-- initialised, it is what the Uninitialized record becomes
initialised_blank : (page : Page) (sequence : ℕ) → AsInCode page → fit_to_use page ≡ true → is_uninitialized page.state ≡ true
    → initialised uninitialized sequence ≡ initialised page sequence
unfolding initialised
initialised_blank page sequence code fit none =
    let f = fit_clauses page fit in
    let blank : is_blank page ≡ true = (rw none at f.blank_fits_lem) in
    let used = (and-eq-true_iff (eqb page.used 0) _).0 blank in
    let erased = (and-eq-true_iff (eqb page.erased 0) _).0 used.1 in
    let sequence = (and-eq-true_iff (eqb page.sequence 0) _).0 erased.1 in
    let version = (and-eq-true_iff (eqb page.version 0) _).0 sequence.1 in
    let crc = (and-eq-true_iff (eqb page.crc 0) _).0 version.1 in
    let len = (and-eq-true_iff (eqb page.len 0) (all_ones page.map)).0 crc.1 in
    let len_is = eqb-true page.len 0 len.0 in
    rw (
      replicate-all_ones page.map len.1 ∙ ap (λ (n : ℕ). replicate {A = ℕ} n 0xFF) code.0,
      eqb-true page.used 0 used.0,
      eqb-true page.erased 0 erased.0,
      zero_list page.list (rw len_is at f.behind_zero_lem) ∙ ap (λ (n : ℕ). replicate n no_item) code.2,
      len_is,
    )

-- ---- any call that is done

pub finished_page_opens : FinishedPageOpens
unfolding initialise
finished_page_opens image page sequence n small code d =
    let checks = initialise_checks image page in
    let new = initialised page sequence in
    let stops_not = stops n (initialise_plan sequence) in
    let ok = begins_accepted checks refl stops_not page new (inl d) in
    let usable = accepted_usable image page (not (is_uninitialized page.state)) ((not (all_ones image), CorruptedData) ∷ []) ok in
    let record_is = initialised_blank page sequence code usable.fit (not-false _ usable.state) in
    let enough : length (initialise_plan sequence) ≤ n = ltb-false n (length (initialise_plan sequence)) (done_whole checks refl stops_not page new d) in
    let h = finished_held sequence small in
    let after : initialise_image image page sequence n ≡ finished sequence small =
    image_after_lem image page sequence n ok ∙ ap (λ (plan : List Unit4). run plan (replicate 4096 0xFF)) (take_all n (initialise_plan sequence) enough) in
    let answer_is : outcome checks stops_not page new ≡ answered Done new = rw (ok, done_whole checks refl stops_not page new d) in (
      ap opening after ∙ held_opening h ∙ ap (answered Done) record_is ∙ sym answer_is,
      ap kept_items after ∙ standing_kept h.standing,
      ap opening_image after ∙ held_image h ∙ sym after,
    )
