-- The first file of a name, by its place, and what stays where one fault of a name is counted.
use Rattle.std.proofs.Common.{◌≡◌, ℕ, ◌+◌, ◌<◌, ◌⊎◌, inl, inr, suc, List, [], ◌∷◌, length, map, take, drop, ◌++◌, zero, add-one, get_or, Option, Some, None, Bool, true, false, not, refl, sym, ◌∙◌, ap, subst, arith, cond, is_some, IfSome}
use Rattle.std.specs.List.{position, position_or_len}
use Rattle.std.proofs.Math.ListN.{set}
use Rattle.std.proofs.lemmas.Grind.{common_steps}
use Rattle.std.proofs.lemmas.Bool.{ltb-true, ltb-false}
use Rattle.std.proofs.lemmas.List.Folds.{find_at}
use Rattle.std.proofs.lemmas.Option.{slice_get-get_or, slice_get_past}
use Rattle.cer_outside.specs.Causes.{one_more, Rose, RoseAt}
use Rattle.cer_outside.specs.States.{CallState, PortionState, SourceState, FileState, HostState, SureHostState}
use Rattle.cer_outside.specs.Content.{HasOpened}
use Rattle.cer_outside.specs.Calls.{FailsNext, OpenFails, source_of}
use Rattle.cer_outside.specs.Files.{is_named, file_under, content_of, content_under, faults_of, faults_under, sure_faults_under, files_with_fault, with_fault, sure_with_fault}

place_is : (b : Bool) (here place : ℕ) → cond b (Some here) None ≡ Some place → (b ≡ true) × (here ≡ place)
place_is true here place found = (refl, cc)
place_is false here place found = absurd (let wrong : None ≡ Some place = found in cc)

no_place : (b : Bool) (here : ℕ) → cond b (Some here) None ≡ None → b ≡ false
no_place true here missing = absurd (let wrong : Some here ≡ None = missing in cc)
no_place false here missing = refl

-- The file at the place is the first of its name,
pub found_file : (files : List FileState) (name : List ℕ) (place : ℕ) (d : FileState) →
    position (is_named name) files ≡ Some place → file_under files name ≡ Some (get_or files place d)
found_file files name place d found =
    let at = place_is _ (position_or_len (is_named name) files) place found in
    let here = slice_get-get_or files (position_or_len (is_named name) files) d (ltb-true _ _ at.0) in
    find_at (is_named name) files ∙ here ∙ ap (λ (k : ℕ). Some (get_or files k d)) at.1

-- and with no place there is none.
pub no_file : (files : List FileState) (name : List ℕ) → position (is_named name) files ≡ None → file_under files name ≡ None
no_file files name missing =
    find_at (is_named name) files ∙ slice_get_past files _ (ltb-false _ _ (no_place _ (position_or_len (is_named name) files) missing))

-- one more fault of a file
abbrev pub faulty : FileState → FileState
faulty file = record file { faults = one_more file.faults }

set_here : (b : Bool) (file : FileState) (files rest : List FileState) (place : ℕ) (d : FileState) →
    cond (not b) (1 + place) 0 < length (file ∷ files) →
    (place < length files → set files place (faulty (get_or files place d)) ≡ rest) →
    set (file ∷ files) (cond (not b) (1 + place) 0) (faulty (get_or (file ∷ files) (cond (not b) (1 + place) 0) d)) ≡ cond b (faulty file ∷ files) (file ∷ rest)
set_here true file files rest place d below later = refl
set_here false file files rest place d below later =
    let next : 1 + place ≡ suc place = omega arith in
    rw next (ap (λ (w : List FileState). file ∷ w) (later (omega arith)))

set_at : (files : List FileState) (name : List ℕ) (d : FileState) → position_or_len (is_named name) files < length files →
    set files (position_or_len (is_named name) files) (faulty (get_or files (position_or_len (is_named name) files) d)) ≡ files_with_fault name files
set_at [] name d below = absurd (omega arith)
set_at (file ∷ files) name d below =
    set_here (is_named name file) file files (files_with_fault name files) (position_or_len (is_named name) files) d below (set_at files name d)

-- A fault more is counted at the place.
pub counted_at : (files : List FileState) (name : List ℕ) (place : ℕ) (was now : FileState) → position (is_named name) files ≡ Some place →
    was ≡ get_or files place was → now ≡ faulty was → set files place now ≡ files_with_fault name files
counted_at files name place was now found is changed =
    let at = place_is _ (position_or_len (is_named name) files) place found in
    let here = set_at files name was (ltb-true _ _ at.0) in
    let new : now ≡ faulty (get_or files place was) = changed ∙ ap faulty is in
    let moved : set files place (faulty (get_or files place was)) ≡ files_with_fault name files = rw at.1 at here in
    ap (set files place) new ∙ moved

-- With no file of the name all stay as they are.
none_here : (b : Bool) (file : FileState) (files rest : List FileState) (under : Option FileState) →
    (under ≡ None → rest ≡ files) → cond b (Some file) under ≡ None → cond b (faulty file ∷ files) (file ∷ rest) ≡ file ∷ files
none_here true file files rest under later missing = absurd (let wrong : Some file ≡ None = missing in cc)
none_here false file files rest under later missing = ap (λ (w : List FileState). file ∷ w) (later missing)

pub none_counted : (files : List FileState) (name : List ℕ) → file_under files name ≡ None → files_with_fault name files ≡ files
none_counted [] name missing = refl
none_counted (file ∷ files) name missing =
    none_here (is_named name file) file files (files_with_fault name files) (file_under files name) (none_counted files name) missing

-- The bytes under each name stay.
here_content : (b : Bool) (file : FileState) (rest : Option FileState) → content_of (cond b (Some (faulty file)) rest) ≡ content_of (cond b (Some file) rest)
here_content true file rest = refl
here_content false file rest = refl

later_content : (b : Bool) (file : FileState) (first second : Option FileState) → content_of first ≡ content_of second →
    content_of (cond b (Some file) first) ≡ content_of (cond b (Some file) second)
later_content true file first second same = refl
later_content false file first second same = same

content_step : (a : Bool) (file : FileState) (files rest : List FileState) (any : List ℕ) → content_under rest any ≡ content_under files any →
    content_under (cond a (faulty file ∷ files) (file ∷ rest)) any ≡ content_under (file ∷ files) any
content_step true file files rest any same = here_content (is_named any file) file (file_under files any)
content_step false file files rest any same = later_content (is_named any file) file (file_under rest any) (file_under files any) same

pub content_stays : (files : List FileState) (name any : List ℕ) → content_under (files_with_fault name files) any ≡ content_under files any
content_stays [] name any = refl
content_stays (file ∷ files) name any = content_step (is_named name file) file files (files_with_fault name files) any (content_stays files name any)

-- The count of each name stays or rises.
abbrev pub StaysOrRose : ℕ → ℕ → Type 0
StaysOrRose before now = (now ≡ before) ⊎ Rose before now

here_faults : (b : Bool) (file : FileState) (rest : Option FileState) (others : ℕ) →
    StaysOrRose (faults_of others (cond b (Some file) rest)) (faults_of others (cond b (Some (faulty file)) rest))
here_faults true file rest others = inr refl
here_faults false file rest others = inl refl

later_faults : (b : Bool) (file : FileState) (first second : Option FileState) (others : ℕ) →
    StaysOrRose (faults_of others second) (faults_of others first) →
    StaysOrRose (faults_of others (cond b (Some file) second)) (faults_of others (cond b (Some file) first))
later_faults true file first second others way = inl refl
later_faults false file first second others way = way

faults_step : (a : Bool) (file : FileState) (files rest : List FileState) (any : List ℕ) (others : ℕ) →
    StaysOrRose (faults_under files others any) (faults_under rest others any) →
    StaysOrRose (faults_under (file ∷ files) others any) (faults_under (cond a (faulty file ∷ files) (file ∷ rest)) others any)
faults_step true file files rest any others way = here_faults (is_named any file) file (file_under files any) others
faults_step false file files rest any others way = later_faults (is_named any file) file (file_under rest any) (file_under files any) others way

files_counted : (files : List FileState) (name any : List ℕ) (others : ℕ) →
    StaysOrRose (faults_under files others any) (faults_under (files_with_fault name files) others any)
files_counted [] name any others = inl refl
files_counted (file ∷ files) name any others =
    faults_step (is_named name file) file files (files_with_fault name files) any others (files_counted files name any others)

others_counted : (under : Option FileState) (others : ℕ) → StaysOrRose (faults_of others under) (faults_of (one_more others) under)
others_counted None others = inr refl
others_counted (Some file) others = inl refl

any_counted : (files : List FileState) (others : ℕ) (name any : List ℕ) (under : Option FileState) → file_under files name ≡ under →
    StaysOrRose (faults_under files others any) (faults_under (files_with_fault name files) (cond (is_some under) others (one_more others)) any)
any_counted files others name any (Some file) found = files_counted files name any others
any_counted files others name any None missing =
    let P : List FileState → Type 0 = λ w. StaysOrRose (faults_under files others any) (faults_under w (one_more others) any) in
    subst P (sym (none_counted files name missing)) (others_counted (file_under files any) others)

-- That of the name itself rises.
rose_step : (b : Bool) (file one : FileState) (files rest : List FileState) (name : List ℕ) → is_named name file ≡ b →
    (file_under files name ≡ Some one → file_under rest name ≡ Some (faulty one)) →
    cond b (Some file) (file_under files name) ≡ Some one → file_under (cond b (faulty file ∷ files) (file ∷ rest)) name ≡ Some (faulty one)
rose_step true file one files rest name is later found =
    let same : file ≡ one = let e : Some file ≡ Some one = found in cc in
    ap (λ (t : Bool). cond t (Some (faulty file)) (file_under files name)) is ∙ ap (λ (f : FileState). Some (faulty f)) same
rose_step false file one files rest name is later found =
    ap (λ (t : Bool). cond t (Some file) (file_under rest name)) is ∙ later found

file_counted : (files : List FileState) (name : List ℕ) (one : FileState) → file_under files name ≡ Some one →
    file_under (files_with_fault name files) name ≡ Some (faulty one)
file_counted [] name one found = absurd (let wrong : None ≡ Some one = found in cc)
file_counted (file ∷ files) name one found =
    rose_step (is_named name file) file one files (files_with_fault name files) name refl (file_counted files name one) found

name_counted : (files : List FileState) (others : ℕ) (name : List ℕ) (under : Option FileState) → file_under files name ≡ under →
    Rose (faults_under files others name) (faults_under (files_with_fault name files) (cond (is_some under) others (one_more others)) name)
name_counted files others name (Some file) found =
    ap (faults_of others) (file_counted files name file found) ∙ sym (ap (λ (u : Option FileState). one_more (faults_of others u)) found)
name_counted files others name None missing =
    ap (λ (w : List FileState). faults_under w (one_more others) name) (none_counted files name missing)
    ∙ ap (faults_of (one_more others)) missing ∙ sym (ap (λ (u : Option FileState). one_more (faults_of others u)) missing)

pub rose_at : (host : HostState) (name : List ℕ) →
    RoseAt name (faults_under host.files host.others) (faults_under (with_fault name host).files (with_fault name host).others)
rose_at host name = record {
  here = name_counted host.files host.others name (file_under host.files name) refl;
  others = λ any. any_counted host.files host.others name any (file_under host.files name) refl;
}

-- The same of a host that fails for no name that it has.
sure_any : (under asked : Option FileState) (others : ℕ) → asked ≡ None →
    StaysOrRose (cond (is_some under) 0 others) (cond (is_some under) 0 (cond (is_some asked) others (one_more others)))
sure_any (Some file) asked others missing = inl refl
sure_any None asked others missing = inr (ap (λ (u : Option FileState). cond (is_some u) others (one_more others)) missing)

pub sure_rose_at : (host : SureHostState) (name : List ℕ) → file_under host.files name ≡ None →
    RoseAt name (sure_faults_under host.files host.others) (sure_faults_under (sure_with_fault name host).files (sure_with_fault name host).others)
sure_rose_at host name missing = record {
  here = rw missing refl;
  others = λ any. sure_any (file_under host.files any) (file_under host.files name) host.others missing;
}

-- A call that is not among those that fail, for a name that the host has, does not fail.
pub may_open : (host : HostState) (name : List ℕ) (one : FileState) → (FailsNext host.calls → ⊥) → file_under host.files name ≡ Some one → OpenFails host name → ⊥
may_open host name one sound found fails =
    elim fails [ inl listed ↦ sound listed | inr missing ↦ (let wrong : Some one ≡ None = sym found ∙ missing in cc) ]

-- The source of a file that was found.
pub source_found : (files : List FileState) (name : List ℕ) (one : FileState) (source : SourceState) → file_under files name ≡ Some one → source ≡ source_of one →
    IfSome (file_under files name) (λ file. source ≡ source_of file)
source_found files name one source found is = let P : Option FileState → Type 0 = λ u. IfSome u (λ file. source ≡ source_of file) in subst P (sym found) is

pub bytes_found : (files : List FileState) (name : List ℕ) (one : FileState) (left : List ℕ) → file_under files name ≡ Some one → left ≡ one.bytes →
    HasOpened (content_under files name) (Some left)
bytes_found files name one left found is = let P : Option FileState → Type 0 = λ u. HasOpened (content_of u) (Some left) in subst P (sym found) (ap (λ (w : List ℕ). Some w) is)

pub sure_found : (files : List FileState) (name : List ℕ) (one : FileState) (source : PortionState) → file_under files name ≡ Some one → source ≡ record { left = one.bytes; piece = one.piece } →
    IfSome (file_under files name) (λ file. source ≡ record { left = file.bytes; piece = file.piece })
sure_found files name one source found is = let P : Option FileState → Type 0 = λ u. IfSome u (λ file. source ≡ record { left = file.bytes; piece = file.piece }) in subst P (sym found) is

-- A host that fails for no name that it has is as it was after a call for such a name.
pub sure_stays : (host : SureHostState) (name : List ℕ) (one : FileState) → file_under host.files name ≡ Some one → sure_with_fault name host ≡ host
sure_stays host name one found = ap (λ (u : Option FileState). record host { others = cond (is_some u) host.others (one_more host.others) }) found

-- One fault more of a name, at its place,
pub file_fault : (files : List FileState) (others : ℕ) (calls : CallState) (name : List ℕ) (place : ℕ) (was now : FileState) → position (is_named name) files ≡ Some place →
    was ≡ get_or files place was → now ≡ faulty was → record { files = set files place now; others = others; calls = calls } ≡ with_fault name (record { files = files; others = others; calls = calls })
file_fault files others calls name place was now found is changed =
    let same = counted_at files name place was now found is changed in
    let under = found_file files name place was found in
    let rest : cond (is_some (file_under files name)) others (one_more others) ≡ others = ap (λ (u : Option FileState). cond (is_some u) others (one_more others)) under in
    ap (λ (w : List FileState). record { files = w; others = others; calls = calls }) same ∙ ap (λ (n : ℕ). record { files = files_with_fault name files; others = n; calls = calls }) (sym rest)

-- or with no place.
pub other_fault : (files : List FileState) (others : ℕ) (calls : CallState) (name : List ℕ) → position (is_named name) files ≡ None →
    record { files = files; others = one_more others; calls = calls } ≡ with_fault name (record { files = files; others = others; calls = calls })
other_fault files others calls name missing =
    let under = no_file files name missing in
    let rest : cond (is_some (file_under files name)) others (one_more others) ≡ one_more others = ap (λ (u : Option FileState). cond (is_some u) others (one_more others)) under in
    ap (λ (w : List FileState). record { files = w; others = one_more others; calls = calls }) (sym (none_counted files name under))
    ∙ ap (λ (n : ℕ). record { files = files_with_fault name files; others = n; calls = calls }) (sym rest)

-- the file with no fault
abbrev pub fresh : FileState → FileState
fresh file = record file { faults = 0 }

-- The counts of a host that fails for no name that it has, once it was asked for another.
pub sure_missed : (host : SureHostState) (name : List ℕ) → file_under host.files name ≡ None →
    RoseAt name (sure_faults_under host.files host.others) (sure_faults_under host.files (one_more host.others))
sure_missed host name missing =
    let same : (sure_with_fault name host).others ≡ one_more host.others = ap (λ (u : Option FileState). cond (is_some u) host.others (one_more host.others)) missing in
    let P : ℕ → Type 0 = λ n. RoseAt name (sure_faults_under host.files host.others) (sure_faults_under host.files n) in
    subst P same (sure_rose_at host name missing)

fresh_front : (files : List FileState) (i : ℕ) (d : FileState) → i < length files →
    set (map fresh (take i files) ++ drop i files) i (fresh (get_or (map fresh (take i files) ++ drop i files) i d)) ≡ map fresh (take (suc i) files) ++ drop (suc i) files
fresh_front [] i d within = absurd (omega arith)
fresh_front (file ∷ files) zero d within = refl
fresh_front (file ∷ files) (suc i) d within = ap (λ (w : List FileState). fresh file ∷ w) (fresh_front files i d (omega arith))

-- One file more has no fault.
pub fresh_more : (files items : List FileState) (i : ℕ) (was now : FileState) → items ≡ map fresh (take i files) ++ drop i files → i < length files →
    now ≡ fresh (get_or items i was) → set items i now ≡ map fresh (take (i + 1) files) ++ drop (i + 1) files
fresh_more files items i was now so_far within changed =
    ap (set items i) changed ∙ ap (λ (w : List FileState). set w i (fresh (get_or w i was))) so_far ∙ rw add-one (fresh_front files i was within)

-- All of them.
pub fresh_all : (files items : List FileState) (i : ℕ) → items ≡ map fresh (take i files) ++ drop i files → i ≡ length files → items ≡ map fresh files
fresh_all files items i so_far all = grind (arith, common_steps)
