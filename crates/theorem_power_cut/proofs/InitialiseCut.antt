-- Initialise cut in one of its phases, inside a unit too: the page is erased, or is CorruptedData, or is the finished page.
--
-- In order: the header in three parts, and the images between the phases; what opening makes of a cut, whatever the phase; the phases; any call that
-- is not refused.
-- The phases are the state word and the sequence; the version, and 0xFF after it; the CRC. The version is 0xFF before the second ends. From then on
-- the page is the finished one exactly where the CRC is right.
use mathlib.Core.Path.{◌≡◌, refl, sym, ap, ap₂, ◌∙◌, subst}
use mathlib.Core.Bool.{Bool, true, false, ◌&&◌, not, cond}
use mathlib.Core.List.{List, [], ◌∷◌, ◌++◌, append-nil}
use mathlib.Core.Logic.{◌⊎◌, inl, inr}
use Prim.Native.Nat.{ℕ, ◌+◌, ◌-◌, ◌≤◌}
use native.Mathlib.Decide.{dec_le}
use native.Mathlib.Omega.{arith}
use lib.Bits.{and_le_l}
use lib.Dec.{eqb}
use lib.ListN.{length, take, replicate, length-append, length-replicate}
use lib.Seq.{take_at, take-length, get_or_at}
use borrow.Author.Tests.{eqb-true, eq-eqb, not-false}
use Rattle.crc.specs.Crc.{crc32}
use Rattle.flash.specs.Flash.{Unit4, units, run, all_ones, OnlyClears, clears_nil, clears_cons, Between, CutAt}
use Rattle.flash.proofs.Laws.{Bytes, bytes_append, bytes_ones, bytes_clears, length_clears, run-units_erased, run_append}
use Rattle.flash.proofs.Cuts.{between_ends, AfterFront, after_front, before_back, whole_units_cut, cut_between, CutInto, of_first, of_second, cut_append}
use Rattle.page.specs.Record.{Page, uninitialized}
use Rattle.page.specs.Writing.{answered}
use Rattle.page.proofs.Checks.{accepted_usable}
use Rattle.sector.specs.declared.Refusal.TheVariants.{CorruptedData}
use Rattle.sector.specs.Answers.{Done, accepted}
use Rattle.sector.specs.Header.{state_of_word, header_crc, header_body, header_bytes, is_uninitialized, is_in_use}
use Rattle.sector.specs.Item.{crc_start}
use Rattle.sector.specs.Layout.{number, little_endian, state_word, version_of, stored_header_crc}
use Rattle.sector.proofs.Laws.{accepted_head, little_endian-number}
use Rattle.call_page_state.specs.Calls.{initialise_checks, initialise_plan, initialise_image}
use Rattle.opening_found.specs.Found.{header_verdict_of}
use Rattle.opening.specs.Opening.{answer_for, opening}
use Rattle.std.specs.Prelude.{Ok, Err}
use Rattle.opening_found.specs.declared.Header.TheVariants.{Blank, Opens}
use Rattle.opening_found.specs.declared.HeaderError.TheVariants.{WrongPageState, WrongVersion, WrongHeaderCrc}
use Rattle.theorem_power_cut.specs.PowerCut.{InitialiseCut}
use Rattle.theorem_power_cut.proofs.Laid.{bytes_little_endian}
use Rattle.theorem_power_cut.proofs.Held.{blank_image}
use Rattle.theorem_power_cut.proofs.Demand.{blank_opening}

abbrev blank : List ℕ
blank = replicate 4096 0xFF

-- ---- the header in three parts

-- a write onto erased bytes, after a front
write_erased : {front bytes : List ℕ} (n : ℕ) → Bytes front → Bytes bytes → length bytes ≤ n
    → run (units (length front) bytes) (front ++ replicate n 0xFF) ≡ front ++ (bytes ++ replicate (n - length bytes) 0xFF)
write_erased {front} {bytes} n bf b h =
    ap (λ (ones : List ℕ). run (units (length front) bytes) (front ++ ones)) (sym (append-nil (replicate n 0xFF)))
    ∙ run-units_erased n front [] (bytes_append bf (bytes_append (bytes_ones n) (bytes_ones 0))) b h
    ∙ ap (λ (ones : List ℕ). front ++ (bytes ++ ones)) (append-nil (replicate (n - length bytes) 0xFF))

module _ (sequence : ℕ) where
  abbrev crc : ℕ
  crc = crc32 crc_start (header_body sequence)

  -- state word and sequence
  abbrev early : List ℕ
  early = little_endian 4 0xFFFFFFFE ++ little_endian 4 sequence

  -- the version, and 0xFF up to the CRC
  abbrev version : List ℕ
  version = 0xFE ∷ replicate 19 0xFF

  abbrev sum : List ℕ
  sum = little_endian 4 crc

  early_bytes : Bytes early
  early_bytes = bytes_append (bytes_little_endian 4 0xFFFFFFFE) (bytes_little_endian 4 sequence)

  version_bytes : Bytes version
  version_bytes = bytes_append (bytes_little_endian 1 0xFE) (bytes_ones 19)

  header_parts : header_bytes sequence ≡ early ++ (version ++ sum)
  unfolding header_bytes
  header_parts = refl

  pub header_long : length (header_bytes sequence) ≡ 32
  unfolding header_bytes
  header_long = refl

  pub header_bytes_lem : Bytes (header_bytes sequence)
  header_bytes_lem = rw header_parts (bytes_append early_bytes (bytes_append version_bytes (bytes_little_endian 4 crc)))

  -- ---- the images between the phases

  abbrev one : List Unit4
  one = units 0 early

  abbrev two : List Unit4
  two = units 8 version

  abbrev three : List Unit4
  three = units 28 sum

  plan_parts : initialise_plan sequence ≡ one ++ (two ++ three)
  unfolding initialise_plan header_bytes units
  plan_parts = refl

  abbrev finished : List ℕ
  finished = early ++ (version ++ (sum ++ replicate 4064 0xFF))

  run_one : run one blank ≡ early ++ replicate 4088 0xFF
  run_one = write_erased {front = []} 4096 (bytes_ones 0) early_bytes (omega arith)

  run_two : run two (run one blank) ≡ early ++ (version ++ replicate 4068 0xFF)
  run_two = ap (run two) run_one ∙ write_erased 4088 early_bytes version_bytes (omega arith)

  run_three : run three (run two (run one blank)) ≡ finished
  run_three = ap (run three) run_two ∙ write_erased {front = early ++ version} 4068 (bytes_append early_bytes version_bytes) (bytes_little_endian 4 crc) (omega arith)

  run_plan : run (initialise_plan sequence) blank ≡ finished
  run_plan =
      ap (λ (plan : List Unit4). run plan blank) plan_parts ∙ run_append one (two ++ three) blank ∙ run_append two three (run one blank) ∙ run_three

  -- ---- what opening makes of a cut

  abbrev Cut : List ℕ → Type 0
  Cut cut = (opening cut ≡ answered Done uninitialized) ⊎ ((opening cut ≡ answered (Err CorruptedData) uninitialized) ⊎ (cut ≡ finished))

  -- a version of 0xFF: erased or CorruptedData
  no_version : (cut : List ℕ) → length cut ≡ 4096 → version_of cut ≡ 0xFF → Cut cut
  unfolding opening header_verdict_of
  no_version cut size v = by_ones (all_ones cut) refl
    where
      refused : (none used : Bool)
          → answer_for (cond (none && false) (Ok Blank) (cond (not used) (Err WrongPageState) (cond true (Err WrongVersion) (cond (not (eqb (header_crc cut) (stored_header_crc cut))) (Err WrongHeaderCrc) (Ok Opens))))) cut
          ≡ answered (Err CorruptedData) uninitialized
      refused true true = refl
      refused true false = refl
      refused false true = refl
      refused false false = refl

      by_ones : (ones : Bool) → all_ones cut ≡ ones → Cut cut
      by_ones true e = inl (ap opening (blank_image cut size e) ∙ blank_opening)
      by_ones false e =
          let state = state_of_word (state_word cut) in
          inr (inl (rw (eq-eqb (length cut) 4096 size, e, v) (refused (is_uninitialized state) (is_in_use state))))

  -- a state and a version, and any CRC: CorruptedData or finished
  any_sum : (bytes : List ℕ) → length bytes ≡ 4 → Bytes bytes → Cut (early ++ (version ++ (bytes ++ replicate 4064 0xFF)))
  unfolding opening header_verdict_of state_of_word header_crc
  any_sum bytes size b = by_crc (eqb crc (number bytes)) refl
    where
      long : length (bytes ++ replicate 4064 0xFF) ≡ 4068
      long = length-append bytes (replicate 4064 0xFF) ∙ ap₂ (λ (m n : ℕ). m + n) size (length-replicate {A = ℕ} 4064 0xFF)

      stored : number (take 4 (bytes ++ replicate 4064 0xFF)) ≡ number bytes
      stored = ap number (take_at bytes (replicate 4064 0xFF) 4 size)

      by_crc : (right : Bool) → eqb crc (number bytes) ≡ right → Cut (early ++ (version ++ (bytes ++ replicate 4064 0xFF)))
      by_crc true e =
          inr (inr (ap (λ (last : List ℕ). early ++ (version ++ (last ++ replicate 4064 0xFF)))
          (sym (little_endian-number b) ∙ ap₂ little_endian size (sym (eqb-true crc (number bytes) e)))))
      by_crc false e = inr (inl (rw (long, stored, e)))

  -- ---- the phases

  length_cut : {old cut new : List ℕ} → length old ≡ 4096 → Between old cut new → length cut ≡ 4096
  length_cut size b = length_clears b.begun ∙ size

  -- in the state word or the sequence: the version is still 0xFF
  in_early : {cut : List ℕ} → Between blank cut (early ++ replicate 4088 0xFF) → Cut cut
  in_early {cut} b =
      let same = before_back (replicate 8 0xFF) early {back = replicate 4088 0xFF} refl b in
      let size : length same.first ≡ 8 = length_clears same.between.begun in
      no_version cut (length_cut (length-replicate {A = ℕ} 4096 0xFF) b)
      (ap version_of same.split ∙ get_or_at same.first 0xFF (replicate 4087 0xFF) 0 8 size)

  -- in the version: it is 0xFF, or its one bit is cleared
  in_version : {cut : List ℕ} → Between (early ++ replicate 4088 0xFF) cut (early ++ (version ++ replicate 4068 0xFF)) → Cut cut
  in_version {cut} b = by_front (after_front early b)
    where
      by_byte : {first : List ℕ} → cut ≡ early ++ (first ++ replicate 4087 0xFF) → OnlyClears (0xFF ∷ []) first → OnlyClears first (0xFE ∷ []) → Cut cut
      by_byte e (clears_cons {x = byte} x clears_nil) (clears_cons y clears_nil) = by_size (omega (arith, and_le_l 0xFF byte)) (omega (arith, and_le_l byte 0xFE)) (dec_le byte 0xFE)
        where
          by_size : byte ≤ 0xFF → 0xFE ≤ byte → Dec (byte ≤ 0xFE) → Cut cut
          by_size upper lower (yes h) =
              let is : byte ≡ 0xFE = omega arith in
              subst Cut (sym (e ∙ ap (λ (v : ℕ). early ++ (v ∷ replicate 4087 0xFF)) is)) (any_sum (replicate 4 0xFF) refl (bytes_ones 4))
          by_size upper lower (no h) =
              let is : byte ≡ 0xFF = omega arith in
              no_version cut (length_cut refl b) (ap version_of e ∙ is)

      by_front : AfterFront early (replicate 4088 0xFF) (version ++ replicate 4068 0xFF) cut → Cut cut
      by_front after =
          let same = before_back (0xFF ∷ []) (0xFE ∷ []) {back = replicate 4087 0xFF} refl after.between in
          by_byte (after.split ∙ ap (λ (rest : List ℕ). early ++ rest) same.split) same.between.begun same.between.left

  -- in the CRC
  in_sum : {cut : List ℕ} → Between (early ++ (version ++ replicate 4068 0xFF)) cut finished → Cut cut
  in_sum {cut} b =
      let after = after_front (early ++ version) b in
      let same = before_back (replicate 4 0xFF) sum {back = replicate 4064 0xFF} refl after.between in
      subst Cut (sym (after.split ∙ ap (λ (rest : List ℕ). early ++ (version ++ rest)) same.split))
      (any_sum same.first (length_clears same.between.begun) (bytes_clears (bytes_ones 4) same.between.begun))

  cut_anywhere : (n : ℕ) {cut : List ℕ} → CutAt (initialise_plan sequence) blank n cut → Cut cut
  cut_anywhere n {cut} c = by_phase (cut_append one (two ++ three) blank n (subst (λ (plan : List Unit4). CutAt plan blank n cut) plan_parts c))
    where
      by_later : {m : ℕ} → CutInto two three (run one blank) m cut → Cut cut
      by_later {m} (of_first l c) = in_version (between_ends run_one run_two (cut_between two (run one blank) m c))
      by_later {m} (of_second l c) = in_sum (between_ends run_two run_three (cut_between three (run two (run one blank)) (m - length two) c))

      by_phase : CutInto one (two ++ three) blank n cut → Cut cut
      by_phase (of_first l c) = in_early (between_ends refl run_one (cut_between one blank n c))
      by_phase (of_second l c) = by_later (cut_append two three (run one blank) (n - length one) c)

-- ---- any call that is not refused

-- it finds the page erased
erased_image : (image : List ℕ) (page : Page) → accepted (initialise_checks image page) ≡ true → image ≡ blank
erased_image image page ok =
    let usable = accepted_usable image page (not (is_uninitialized page.state)) ((not (all_ones image), CorruptedData) ∷ []) ok in
    blank_image image usable.whole (not-false _ (accepted_head (not (all_ones image)) CorruptedData [] usable.rest))

-- and programs the units of the plan
pub image_after_lem : (image : List ℕ) (page : Page) (sequence n : ℕ) → accepted (initialise_checks image page) ≡ true
    → initialise_image image page sequence n ≡ run (take n (initialise_plan sequence)) blank
unfolding initialise_image
image_after_lem image page sequence n ok = rw ok (ap (run (take n (initialise_plan sequence))) (erased_image image page ok))

-- all of them leave the finished page
pub run_header : (sequence : ℕ) → run (initialise_plan sequence) blank ≡ header_bytes sequence ++ replicate 4064 0xFF
run_header sequence = run_plan sequence ∙ ap (λ (header : List ℕ). header ++ replicate 4064 0xFF) (sym (header_parts sequence))

pub initialise_cut : InitialiseCut
initialise_cut image page sequence n h ok =
    rw (image_after_lem image page sequence n ok, image_after_lem image page sequence (length (initialise_plan sequence)) ok, take-length (initialise_plan sequence), run_plan sequence)
    (cut_anywhere sequence n (whole_units_cut (initialise_plan sequence) blank n))
