-- What a run has left before it comes to its second file, also where it runs out of memory.
use Rattle.std.proofs.Common.{◌≡◌, ◌⊎◌, ℕ, ◌+◌, List, [], ◌∷◌, ◌++◌, ap₂, append-nil, take, true, false, Option, Some, None, codes, Ok, refl, sym, ap, ◌∙◌, subst, inl, inr}
use Rattle.tl_base.specs.Contents.{Files}
use Rattle.tl_base.specs.Outside.{View, HasFile, left_of, with_left, with_written, written_of}
use Rattle.tl_base.specs.declared.host.Out.{Out}
use Rattle.tl_base.specs.declared.host.Out.TheVariants as outs
use Rattle.tl_base.specs.declared.host.Slot.{Slot}
use Rattle.tl_base.specs.declared.host.Slot.TheVariants as slots
use Rattle.tl_schema.specs.Schemas.{Declared}
use Rattle.wire_profile.specs.Indexes.{ProfileView}
use Rattle.wire_profile.specs.Faults.{IsAnswer}
use Rattle.outside.specs.Answer.{Answer, done, memory_line, refused}
use Rattle.outside.specs.declared.status.Status.{Status}
use Rattle.outside.specs.declared.status.Status.TheVariants.{Done, Refused}
use Rattle.outside.specs.Events.{Event, Outside, opened, took, ended, read_failed, created, put, write_failed, listened, connected, accepted, told}
use Rattle.outside.specs.Laws.{Throughout, Keeps}
use Rattle.outside.specs.Pieces.{ReadsFile}
use Rattle.outside.specs.Printing.{Prints}
use Rattle.outside.specs.Begun.{to_link}
use Rattle.outside.specs.Runs.{RunsIn}
use Rattle.outside.specs.Runs as runs
use Rattle.outside.specs.Steps.{Step, Then, Begins}
use Rattle.outside.proofs.Causing.{keeps_file, keeps_print, keeps_tell, throughout_first}
use Rattle.outside.specs.Fits.{Fits, Happens}
use Rattle.outside.proofs.Fitting.{files_are_read, fits_both, fits_keeps}
use Rattle.schema_files.specs.Answering.{OfSchemaText}
use Rattle.schema_files.specs.Answering as answering
use Rattle.schema_files.specs.Loaded.{IsSchemaText}
use Rattle.schema_files.specs.declared.schema_text.TheConstants.{SCHEMA_BYTES}
use Rattle.fault_lines.specs.Profiled.{HasProfile}
use Rattle.codec_rooms.specs.Laws.{IsPrinted}
use Rattle.codec_rooms.specs.Typed.{OfCommand}
use Rattle.codec_rooms.specs.Typed as typed
use Rattle.codec_rooms.proofs.TypedFiles.{text_stays}
use Rattle.update_commands.specs.Profile.{OfProfile, no_profile, profiled}
use Rattle.session_commands.specs.Post.{ReachesLink}
use Rattle.session_rooms.proofs.LeftViews.{SparesRest, all_leave, beside, spares_rest}

-- ---- beginnings

-- a beginning of two parts: of the first, or the first and a beginning of the second
data Split (t rest first second : List Event) : Type 0 where
  within : (more : List Event) → t ++ more ≡ first → Split t rest first second
  past : (k : List Event) → t ≡ first ++ k → k ++ rest ≡ second → Split t rest first second

same_cons : (x y : Event) (xs ys : List Event) → x ∷ xs ≡ y ∷ ys → (x ≡ y) × (xs ≡ ys)
same_cons x y xs ys is = (cc, cc)

split : (t rest first second : List Event) → t ++ rest ≡ first ++ second → Split t rest first second
split [] rest first second is = within first refl
split (e ∷ t) rest [] second is = past (e ∷ t) refl is
split (e ∷ t) rest (g ∷ first) second is =
    let same = same_cons e g (t ++ rest) (first ++ second) is in
    elim (split t rest first second same.1) [
      | within more join ↦ within more (ap₂ (λ (x : Event) (xs : List Event). x ∷ xs) same.0 join)
      | past k parts join ↦ past k (ap₂ (λ (x : Event) (xs : List Event). x ∷ xs) same.0 parts) join
    ]

-- the first step was done, and the second was begun
record Passed {A : Type 0} (S : Step A) (N : A → Step Status) (t : List Event) : Type 0 where
  first : List Event
  more : List Event
  between : A
  parts : t ≡ first ++ more
  does : S first between
  goes : Begins (N between) more

begun_then : {A : Type 0} (S : Step A) (N : A → Step Status) (t : List Event) → Begins (Then S N) t → Begins S t ⊎ Passed S N t
begun_then S N t h =
    let w = h.whole in
    elim (split t h.rest w.first w.rest w.splits) [
      | within more join ↦ inl (record { rest = more; answer = w.between; whole = subst (λ (l : List Event). S l w.between) (sym join) w.does })
      | past k parts join ↦
          inr (record {
            first = w.first;
            more = k;
            between = w.between;
            parts = parts;
            does = w.does;
            goes = record { rest = h.rest; answer = h.answer; whole = subst (λ (l : List Event). N w.between l h.answer) (sym join) w.goes };
          })
    ]

keeps_begins : {A : Type 0} (P : Event → Type 0) (S : Step A) (t : List Event) → Keeps P S → Begins S t → Throughout P t
keeps_begins P S t keeps h = throughout_first P t h.rest (keeps (t ++ h.rest) h.answer h.whole)

-- a whole step is a beginning
pub all_begun : {A : Type 0} (S : Step A) (t : List Event) (a : A) → S t a → Begins S t
all_begun S t a h = record { rest = []; answer = a; whole = subst (λ (l : List Event). S l a) (sym (append-nil t)) h }

-- ---- what changes until then

-- the slot Schema is read, and Output and Errors are written to
abbrev IsFirst : Event → Type 0
IsFirst (opened slot name ok) = slot ≡ slots.Schema
IsFirst (took slot bytes) = slot ≡ slots.Schema
IsFirst (ended slot) = Unit {0}
IsFirst (read_failed slot) = Unit {0}
IsFirst (created out name ok) = ⊥
IsFirst (put out bytes) = IsPrinted out
IsFirst (write_failed out) = Unit {0}
IsFirst (listened address ok) = ⊥
IsFirst (connected address ok) = ⊥
IsFirst (accepted ok) = ⊥
IsFirst (told moment) = ⊥

abbrev input_of : View → List ℕ
input_of v = v.left.input

print_leaves : (out : Out) (bytes : List ℕ) (v : View) → IsPrinted out → input_of (with_written out bytes v) ≡ input_of v
print_leaves outs.Output bytes v k = refl
print_leaves outs.Errors bytes v k = refl
print_leaves outs.State bytes v k = refl
print_leaves outs.Link bytes v k = refl

slot_leaves : (slot : Slot) (bytes : List ℕ) (v : View) → slot ≡ slots.Schema → input_of (with_left slot bytes v) ≡ input_of v
slot_leaves slot bytes v is = ap (λ (x : Slot). input_of (with_left x bytes v)) is

input_left : (e : Event) (s n : Outside) → Happens e s n → IsFirst e → input_of n.view ≡ input_of s.view
input_left (opened slot name true) s n h k = ap input_of h.0.2 ∙ slot_leaves slot h.0.0 s.view k
input_left (opened slot name false) s n h k = ap input_of h.0
input_left (took slot bytes) s n h k = ap input_of h.1 ∙ slot_leaves slot (left_of slot n.view) s.view k
input_left (ended slot) s n h k = ap input_of h.1
input_left (read_failed slot) s n h k = ap input_of h.0
input_left (created out name ok) s n h k = absurd k
input_left (put out bytes) s n h k = ap input_of h.0 ∙ print_leaves out (written_of out s.view ++ bytes) s.view k
input_left (write_failed out) s n h k = ap input_of h.0
input_left (listened address ok) s n h k = absurd k
input_left (connected address ok) s n h k = absurd k
input_left (accepted ok) s n h k = absurd k
input_left (told moment) s n h k = absurd k

first_spares : (e : Event) → IsFirst e → SparesRest e
first_spares (opened slot name ok) k = tt
first_spares (took slot bytes) k = tt
first_spares (ended slot) k = tt
first_spares (read_failed slot) k = tt
first_spares (created out name ok) k = absurd k
first_spares (put out bytes) k = k
first_spares (write_failed out) k = tt
first_spares (listened address ok) k = absurd k
first_spares (connected address ok) k = absurd k
first_spares (accepted ok) k = absurd k
first_spares (told moment) k = absurd k

all_spare : (t : List Event) → Throughout IsFirst t → Throughout SparesRest t
all_spare [] k = tt
all_spare (e ∷ t) k = (first_spares e k.0, all_spare t k.1)

-- ---- how far a run comes

-- to no profile; to one, and no further; or to the file after which a link is made
pub data Reach (files : Files) (schema name : List ℕ) (v w : View) : Type 0 where
  at_schema : beside w ≡ beside v → input_of w ≡ input_of v → Reach files schema name v w
  at_file : HasProfile files schema → beside w ≡ beside v → Reach files schema name v w
  at_link : ReachesLink files schema name → Reach files schema name v w

-- nothing but Output and Errors is changed afterwards
pub reach_then : (files : Files) (schema name : List ℕ) (v u w : View) → beside w ≡ beside u → input_of w ≡ input_of u → Reach files schema name v u → Reach files schema name v w
reach_then files schema name v u w same input (at_schema rest kept) = at_schema (same ∙ rest) (input ∙ kept)
reach_then files schema name v u w same input (at_file profile rest) = at_file profile (same ∙ rest)
reach_then files schema name v u w same input (at_link there) = at_link there

never_done : (line : List ℕ) → done [] ≡ refused line → ⊥
never_done line e = let not : Done ≡ Refused = ap (λ (a : Answer). a.status) e in cc

schema_from : (file : List ℕ) (S : Declared) → OfSchemaText (codes "schema") (λ U b. U ≡ S) file (done []) → IsSchemaText file S
schema_from file S (answering.no_schema cause refuses e) = absurd (never_done _ e)
schema_from file S (answering.schema_of U is same) = subst (IsSchemaText file) same is

-- what is read of a file up to one byte past the limit is a schema's text only where the file is
pub schema_stays : (file : List ℕ) (S : Declared) → IsSchemaText (take (SCHEMA_BYTES + 1) file) S → IsSchemaText file S
schema_stays file S is = schema_from file S (text_stays (codes "schema") (λ U b. U ≡ S) file (done []) (answering.schema_of S is refl))

pub has_profile : (files : Files) (schema text file : List ℕ) (S : Declared) (p : ProfileView) → HasFile files schema file → text ≡ take (SCHEMA_BYTES + 1) file → IsSchemaText text S → IsAnswer S (Ok p) → HasProfile files schema
has_profile files schema text file S p has is read answers = record {
  text = file;
  p = p;
  there = has;
  is = record { schema = S; read = schema_stays file S (subst (λ (l : List ℕ). IsSchemaText l S) is read); is = answers };
}

module _ (schema name : List ℕ) (slot : Slot) (limit : ℕ) (N : ProfileView → Option (List ℕ) → Step Status) (none : (p : ProfileView) → Keeps SparesRest (N p None)) where
  abbrev Rest : ProfileView → Step Status
  Rest p = Then (ReadsFile slot name limit) (N p)

  -- ---- the second file

  module _ (p : ProfileView) where
    named_reach : (text : Option (List ℕ)) (t u : List Event) (s m n : Outside) → ReadsFile slot name limit t text → Begins (N p text) u → Fits t s m → Fits u m n → (beside n.view ≡ beside s.view) ⊎ ((bytes : List ℕ) × HasFile s.view.files name bytes)
    named_reach (Some text) t u s m n read h f g = let file = files_are_read slot name limit t text s m read f in inr (file.0, file.1)
    named_reach None t u s m n read h f g =
        inl (spares_rest u m n (keeps_begins SparesRest (N p None) u (none p) h) g ∙ spares_rest t s m (keeps_file SparesRest slot name limit (λ _. tt) (λ _. tt) tt tt t None read) f)

    file_reach : (t : List Event) (s n : Outside) → Begins (Rest p) t → Fits t s n → (beside n.view ≡ beside s.view) ⊎ ((bytes : List ℕ) × HasFile s.view.files name bytes)
    file_reach t s n h f = elim (begun_then (ReadsFile slot name limit) (N p) t h) [
      | inl b ↦ inl (spares_rest t s n (keeps_begins SparesRest (ReadsFile slot name limit) t (keeps_file SparesRest slot name limit (λ _. tt) (λ _. tt) tt tt) b) f)
      | inr passed ↦
          (let parts = fits_both passed.first passed.more s n (subst (λ (l : List Event). Fits l s n) passed.parts f) in
          named_reach passed.between passed.first passed.more s parts.0 n passed.does passed.goes parts.1 parts.2)
    ]

  -- ---- the schema

  refused_first : (line : List ℕ) → Keeps IsFirst (Prints (refused line))
  refused_first line = keeps_print IsFirst (λ _. tt) tt (λ _. tt) tt (refused line)

  -- no profile is come to
  stays_first : (t u : List Event) (s m n : Outside) → Throughout IsFirst t → Throughout IsFirst u → Fits t s m → Fits u m n → Reach s.view.files schema name s.view n.view
  stays_first t u s m n k l f g =
      at_schema (spares_rest u m n (all_spare u l) g ∙ spares_rest t s m (all_spare t k) f) (all_leave input_of IsFirst input_left u m n l g ∙ all_leave input_of IsFirst input_left t s m k f)

  profile_reach : (s m n : Outside) (text file : List ℕ) (S : Declared) (p : ProfileView) → HasFile s.view.files schema file → text ≡ take (SCHEMA_BYTES + 1) file → IsSchemaText text S → IsAnswer S (Ok p)
      → m.view.files ≡ s.view.files → beside m.view ≡ beside s.view → (beside n.view ≡ beside m.view) ⊎ ((bytes : List ℕ) × HasFile m.view.files name bytes) → Reach s.view.files schema name s.view n.view
  profile_reach s m n text file S p has is read answers files rest (inl same) = at_file (has_profile s.view.files schema text file S p has is read answers) (same ∙ rest)
  profile_reach s m n text file S p has is read answers files rest (inr there) =
      at_link (record { profile = has_profile s.view.files schema text file S p has is read answers; bytes = there.0; there = subst (λ (fs : Files). HasFile fs name there.0) files there.1 })

  first_read : (t : List Event) (o : Option (List ℕ)) → ReadsFile slots.Schema schema SCHEMA_BYTES t o → Throughout IsFirst t
  first_read = keeps_file IsFirst slots.Schema schema SCHEMA_BYTES (λ _. refl) (λ _. refl) tt tt

  module _ (text : List ℕ) (t u rest : List Event) (answer : Status) (s m n : Outside) (read : ReadsFile slots.Schema schema SCHEMA_BYTES t (Some text)) (f : Fits t s m) (g : Fits u m n) where
    schema_reach : (S : Declared) → IsSchemaText text S → OfProfile Rest S (u ++ rest) answer → Reach s.view.files schema name s.view n.view
    schema_reach S is (no_profile fault lacks h) = stays_first t u s m n (first_read t (Some text) read) (throughout_first IsFirst u rest (refused_first _ (u ++ rest) answer h)) f g
    schema_reach S is (profiled p answers h) =
        let file = files_are_read slots.Schema schema SCHEMA_BYTES t text s m read f in
        profile_reach s m n text file.0 S p file.1 file.2 is answers (fits_keeps t s m f).files (spares_rest t s m (all_spare t (first_read t (Some text) read)) f)
        (file_reach p u m n (record { rest = rest; answer = answer; whole = h }) g)

    text_reach : typed.OfText (codes "schema") (OfProfile Rest) text (u ++ rest) answer → Reach s.view.files schema name s.view n.view
    text_reach (typed.no_schema cause refuses h) = stays_first t u s m n (first_read t (Some text) read) (throughout_first IsFirst u rest (refused_first _ (u ++ rest) answer h)) f g
    text_reach (typed.schema_of S is h) = schema_reach S is h

  read_reach : (o : Option (List ℕ)) (t u : List Event) (s m n : Outside) → ReadsFile slots.Schema schema SCHEMA_BYTES t o → Begins (typed.after_schema (codes "schema") (OfProfile Rest) o) u → Fits t s m → Fits u m n
      → Reach s.view.files schema name s.view n.view
  read_reach (Some text) t u s m n read h f g = text_reach text t u h.rest h.answer s m n read f g h.whole
  read_reach None t u s m n read h f g = stays_first t u s m n (first_read t None read) (throughout_first IsFirst u h.rest (keeps_tell IsFirst (λ _. tt) tt _ _ (u ++ h.rest) h.answer h.whole)) f g

  pub command_reach : (t : List Event) (s n : Outside) → Begins (OfCommand (OfProfile Rest) schema) t → Fits t s n → Reach s.view.files schema name s.view n.view
  command_reach t s n h f = elim (begun_then (ReadsFile slots.Schema schema SCHEMA_BYTES) (typed.after_schema (codes "schema") (OfProfile Rest)) t h) [
    | inl b ↦
        (let k = throughout_first IsFirst t b.rest (first_read (t ++ b.rest) b.answer b.whole) in
        at_schema (spares_rest t s n (all_spare t k) f) (all_leave input_of IsFirst input_left t s n k f))
    | inr passed ↦
        (let parts = fits_both passed.first passed.more s n (subst (λ (l : List Event). Fits l s n) passed.parts f) in
        read_reach passed.between passed.first passed.more s parts.0 n passed.does passed.goes parts.1 parts.2)
  ]

  -- a whole run, or one that ran out of memory
  pub run_reach : (t : List Event) (r : Status) (s n : Outside) → RunsIn to_link (OfCommand (OfProfile Rest) schema) t r → Fits t s n → Reach s.view.files schema name s.view n.view
  run_reach t r s n (runs.done h) f = command_reach t s n (all_begun (OfCommand (OfProfile Rest) schema) t r h) f
  run_reach t r s n (runs.out_of_memory h) f =
      let parts = fits_both h.first h.rest s n (subst (λ (l : List Event). Fits l s n) h.splits f) in
      let b = h.does.0 in
      let k : Throughout IsFirst h.rest = keeps_tell IsFirst (λ _. tt) tt memory_line h.between h.rest r h.goes in
      reach_then s.view.files schema name s.view parts.0.view n.view (spares_rest h.rest parts.0 n (all_spare h.rest k) parts.2) (all_leave input_of IsFirst input_left h.rest parts.0 n k parts.2)
      (command_reach h.first s parts.0 (record { rest = b.rest; answer = b.answer; whole = b.whole }) parts.1)
