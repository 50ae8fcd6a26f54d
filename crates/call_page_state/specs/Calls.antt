-- Initialise and mark full (01, 'Calls, leaves first').
--
-- Each call: its checks in order, its plan, its new record; then what it hands back and what it leaves in the image.
use Rattle.std.specs.Prelude.{false, not, List, [], ◌∷◌, ℕ, take}
use Rattle.crc.specs.Crc.{crc32}
use Rattle.flash.specs.Flash.{Unit4, units, all_ones}
use Rattle.page.specs.Record.{Page}
use Rattle.page.specs.Writing.{Outcome, bad_image, bad_record, not_active, outcome, image_after, stops}
use Rattle.sector.specs.declared.Refusal.TheVariants.{WrongState, CorruptedData}
use Rattle.sector.specs.declared.PageState.TheVariants.{Active, Full}
use Rattle.sector.specs.Answers.{Check}
use Rattle.sector.specs.Header.{header_body, header_bytes, state_bytes, is_uninitialized}
use Rattle.sector.specs.Item.{crc_start}

-- ---- initialise

-- then: state not Uninitialized; image not all 0xFF
abbrev pub initialise_checks : List ℕ → Page → List Check
initialise_checks image page =
    bad_image image
    ∷ bad_record page
    ∷ (not (is_uninitialized page.state), WrongState)
    ∷ (not (all_ones image), CorruptedData)
    ∷ []

-- the header
unfoldable pub initialise_plan : ℕ → List Unit4
initialise_plan sequence = units 0 (header_bytes sequence)

-- state Active, version 0xFE
unfoldable pub initialised : Page → ℕ → Page
initialised page sequence =
    record {
      state = Active;
      sequence = sequence;
      version = 0xFE;
      crc = crc32 crc_start (header_body sequence);
      map = page.map;
      used = page.used;
      erased = page.erased;
      len = page.len;
      list = page.list;
    }

unfoldable pub initialise : List ℕ → Page → ℕ → ℕ → Outcome
initialise image page sequence n =
    outcome (initialise_checks image page) (stops n (initialise_plan sequence)) page (initialised page sequence)

unfoldable pub initialise_image : List ℕ → Page → ℕ → ℕ → List ℕ
initialise_image image page sequence n =
    image_after (initialise_checks image page) (take n (initialise_plan sequence)) image

-- ---- mark full

abbrev pub mark_full_checks : List ℕ → Page → List Check
mark_full_checks image page = bad_image image ∷ bad_record page ∷ not_active page ∷ []

-- the state word
unfoldable pub mark_full_plan : List Unit4
mark_full_plan = units 0 (state_bytes Full)

unfoldable pub marked_full : Page → Page
marked_full page =
    record {
      state = Full;
      sequence = page.sequence;
      version = page.version;
      crc = page.crc;
      map = page.map;
      used = page.used;
      erased = page.erased;
      len = page.len;
      list = page.list;
    }

unfoldable pub mark_full : List ℕ → Page → Outcome
mark_full image page = outcome (mark_full_checks image page) false page (marked_full page)

unfoldable pub mark_full_image : List ℕ → Page → List ℕ
mark_full_image image page = image_after (mark_full_checks image page) mark_full_plan image
