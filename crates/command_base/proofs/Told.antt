-- What is told of a file that was opened. For commands.
use Rattle.std.proofs.Common.{◌≡◌, ◌≢◌, ℕ, List, [], Option, Some, None, subst}
use Rattle.cer_outside.specs.Content.{Content, Untold, Missing, Holds, HasOpened, OfOpened}
use Rattle.stream_schema.specs.Types.{Declared}
use Rattle.stream_schema.specs.declared.Event.{Event}
use Rattle.cel_terms.specs.declared.Query.{Query}
use Rattle.event_run.specs.Taking.{AreEventsRead, AreEventsReadAfter}
use Rattle.command_base.specs.SourceBytes.{IsRest, IsRestOf}

-- a file that was opened is not missing
pub not_missing : (content : Content) (source : Option (List ℕ)) → HasOpened content source → content ≢ Missing
not_missing content source opened missing = let P : Content → Type 0 = λ w. HasOpened w source in subst P missing opened

pub text_not_missing : (content : Content) (P : List ℕ → Type 0) → OfOpened content P → content ≢ Missing
text_not_missing content P fact missing = let Q : Content → Type 0 = λ w. OfOpened w P in subst Q missing fact

-- the bytes that are told of a file that was opened
pub source_told : (content : Content) (source : Option (List ℕ)) (lines : List ℕ) → HasOpened content source → content ≡ Holds lines → source ≡ Some lines
source_told content source lines opened told = let P : Content → Type 0 = λ w. HasOpened w source in subst P told opened

pub text_told : (content : Content) (text : List ℕ) (P : List ℕ → Type 0) → content ≡ Holds text → OfOpened content P → P text
text_told content text P same fact = let Q : Content → Type 0 = λ w. OfOpened w P in subst Q same fact

-- what follows of the bytes of a file follows of the file
pub opened_map : (content : Content) (P Q : List ℕ → Type 0) → ((bytes : List ℕ) → P bytes → Q bytes) → OfOpened content P → OfOpened content Q
opened_map Untold P Q too fact = tt
opened_map Missing P Q too fact = fact
opened_map (Holds bytes) P Q too fact = too bytes fact

-- the lines that were read of it, by what is left
pub read_so_far : (schema : Declared) (queries : List Query) (most_bytes : ℕ) (lines rest : List ℕ) (left : Option (List ℕ)) (events : List Event) → AreEventsRead schema queries most_bytes lines left events → left ≡ Some rest →
    AreEventsRead schema queries most_bytes lines (Some rest) events
read_so_far schema queries most_bytes lines rest left events read same = let P : Option (List ℕ) → Type 0 = λ l. AreEventsRead schema queries most_bytes lines l events in subst P same read

-- what is left behind the lines that were read
pub left_behind : (earlier : List Event) (schema : Declared) (queries : List Query) (most_bytes : ℕ) (left : Option (List ℕ)) (lines : List ℕ) (events : List Event) → AreEventsReadAfter earlier schema queries most_bytes lines left events → IsRest (Some lines) left
left_behind earlier schema queries most_bytes None lines events read = read
left_behind earlier schema queries most_bytes (Some rest) lines events read = (read.cut.taken, read.cut.whole)

pub read_behind : (schema : Declared) (queries : List Query) (most_bytes : ℕ) (left : Option (List ℕ)) (lines : List ℕ) (events : List Event) → AreEventsRead schema queries most_bytes lines left events → IsRest (Some lines) left
read_behind schema queries most_bytes None lines events read = read
read_behind schema queries most_bytes (Some rest) lines events read = left_behind [] schema queries most_bytes (Some rest) lines events read

-- what a source that failed has left is the last part of the file, where it is that of bytes which are told
pub rest_of : (content : Content) (source left : Option (List ℕ)) → HasOpened content source → ((lines : List ℕ) → source ≡ Some lines → IsRest (Some lines) left) → IsRestOf content left
rest_of Untold source left opened last = tt
rest_of Missing source left opened last = opened
rest_of (Holds lines) source left opened last = last lines opened
