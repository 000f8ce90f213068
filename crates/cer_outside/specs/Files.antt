-- Files under names, of which the first of a name counts.
use Rattle.std.specs.Prelude.{ℕ, List, [], ◌∷◌, Bool, find, if◌then◌else◌, is_some, Option, Some, None}
use Rattle.std.specs.Str.{bytes_eq}
use Rattle.cer_outside.specs.Causes.{one_more}
use Rattle.cer_outside.specs.Content.{Content, Missing, Holds}
use Rattle.cer_outside.specs.States.{FileState, HostState, SureHostState}

-- The file has this name.
abbrev pub is_named : List ℕ → FileState → Bool
is_named name file = bytes_eq file.name name

-- The first file of this name.
abbrev pub file_under : List FileState → List ℕ → Option FileState
file_under files name = find (is_named name) files

-- what is told of a file
abbrev pub content_of : Option FileState → Content
content_of None = Missing
content_of (Some file) = Holds file.bytes

-- What is told of a name.
abbrev pub content_under : List FileState → List ℕ → Content
content_under files name = content_of (file_under files name)

-- how often opening a file failed; where there is none, the count of all names without a file
abbrev pub faults_of : ℕ → Option FileState → ℕ
faults_of others None = others
faults_of others (Some file) = file.faults

-- How often a call for this name failed.
abbrev pub faults_under : List FileState → ℕ → List ℕ → ℕ
faults_under files others name = faults_of others (file_under files name)

-- The same of a host that fails for no name that it has.
abbrev pub sure_faults_under : List FileState → ℕ → List ℕ → ℕ
sure_faults_under files others name = if is_some (file_under files name) then 0 else others

-- the files, with one fault more of the first of this name
abbrev pub files_with_fault : List ℕ → List FileState → List FileState
files_with_fault name [] = []
files_with_fault name (file ∷ files) =
    if is_named name file
    then record file { faults = one_more file.faults } ∷ files
    else file ∷ files_with_fault name files

-- The host, with one fault more of this name.
abbrev pub with_fault : List ℕ → HostState → HostState
with_fault name host = record host {
  files = files_with_fault name host.files;
  others = if is_some (file_under host.files name) then host.others else one_more host.others;
}

-- the same of a host that fails for no name that it has
abbrev pub sure_with_fault : List ℕ → SureHostState → SureHostState
sure_with_fault name host = record host {
  others = if is_some (file_under host.files name) then host.others else one_more host.others;
}
