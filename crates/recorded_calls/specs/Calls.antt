-- The numbers of the calls (compare/RECORDED.md, 'The calls').
use Rattle.std.specs.Prelude.{ℕ, [], ◌∷◌, Result, Ok, Err, get_or}
use Rattle.recorded_file.specs.declared.error.ReplayError.{ReplayError}
use Rattle.recorded_file.specs.declared.error.ReplayError.TheVariants.{NoCall}
use Rattle.recorded_calls.specs.declared.call.Call.{Call}
use Rattle.recorded_calls.specs.declared.call.Call.TheVariants.{Crc32, ItemCrc, HeaderCrc, Hash, TypeByte, Width, Load, RawRead, LoadData, EntryState, Statistics, HashBound, Initialise, MarkFull, AppendSingle, AppendNamespace, AppendVariable, CopyIn, Erase, Purge, PurgeNamespace}

-- 12, opening, is no call of the file, and neither is a number above 21
abbrev pub call_of : ℕ → Result Call ReplayError
call_of number =
    get_or (Ok Crc32 ∷ Ok ItemCrc ∷ Ok HeaderCrc ∷ Ok Hash ∷ Ok TypeByte ∷ Ok Width ∷ Ok Load ∷ Ok RawRead ∷ Ok LoadData ∷ Ok EntryState
    ∷ Ok Statistics ∷ Ok HashBound ∷ Err NoCall ∷ Ok Initialise ∷ Ok MarkFull ∷ Ok AppendSingle ∷ Ok AppendNamespace ∷ Ok AppendVariable
    ∷ Ok CopyIn ∷ Ok Erase ∷ Ok Purge ∷ Ok PurgeNamespace ∷ []) number (Err NoCall)
