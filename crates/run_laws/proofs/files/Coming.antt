-- What a run comes to that reads files and then prints, also where it was cut short.
use Rattle.std.proofs.Common.{◌≡◌, ◌⊎◌, ℕ, ◌+◌, ◌<◌, List, [], ◌∷◌, ◌++◌, length, take, append_assoc, Option, Some, None, refl, sym, ap, ◌∙◌, subst, inl, inr, arith}
use Rattle.tl_base.specs.Kinds.{slot_kind}
use Rattle.tl_base.specs.Outside.{HasFile, IsThere}
use Rattle.tl_base.specs.declared.counts.Kind.{Kind}
use Rattle.tl_base.specs.declared.counts.Kind.TheVariants.{Reads}
use Rattle.tl_base.specs.declared.host.Slot.{Slot}
use Rattle.outside.specs.Answer.{Answer}
use Rattle.outside.specs.declared.status.Status.{Status}
use Rattle.outside.specs.Events.{Event, Outside}
use Rattle.outside.specs.Laws.{Happened, IsFailure, Keeps, Throughout}
use Rattle.outside.specs.Pieces.{ReadsFile}
use Rattle.outside.specs.Printing.{Prints, Unread}
use Rattle.outside.specs.Steps.{Step, Then}
use Rattle.outside.proofs.Causing.{happened_last, keeps_file, throughout_both, throughout_first, unread_file}
use Rattle.outside.specs.Fits.{Fits}
use Rattle.outside.specs.Reliable.{IsMissing, IsReliable}
use Rattle.outside.proofs.Fitting.{files_are_read, files_can_be_read, fits_both}
use Rattle.run_laws.proofs.files.Cutting.{Cut, past, within, cut}
use Rattle.run_laws.proofs.files.Spared.{IsDry, IsFileRead, IsFileSlot, IsSchemaSlot}

-- Input wasn't touched, unless the work came to it
abbrev pub Spares : Type 0 → List Event → Type 0
Spares Came t = Throughout IsDry t ⊎ Came

-- What the first events of a run come to, where these others follow: files are still read; a file can't be read, which has no answer where no call was told to
-- fail; or an answer of this kind is printed.
pub data ComesTo (Is : Answer → Type 0) (Came : Type 0) (s : Outside) (t u : List Event) (status : Status) : Type 0 where
  reading : 0 < length u → Throughout IsFileRead t → Spares Came t → ComesTo Is Came s t u status
  unread : (first rest : List Event) → t ≡ first ++ rest → Throughout IsFileRead first → Spares Came first → Happened (IsFailure Reads) first → Unread (rest ++ u) status → (IsReliable s → (a : Answer) → Is a → ⊥)
      → ComesTo Is Came s t u status
  answered : (a : Answer) (first rest : List Event) → t ≡ first ++ rest → Throughout IsFileRead first → Spares Came first → Is a → Prints a (rest ++ u) status → ComesTo Is Came s t u status

-- the first events of each step that is so, over an outside, come to that
abbrev pub Comes : (Outside → Answer → Type 0) → (Outside → Type 0) → Step Status → Type 0
Comes Is Came W = (t u : List Event) (status : Status) (s n : Outside) → W (t ++ u) status → Fits t s n → ComesTo (Is s) (Came s) s t u status

pub spares_both : (C : Type 0) (t u : List Event) → Spares C t → Spares C u → Spares C (t ++ u)
spares_both C t u (inr c) k = inr c
spares_both C t u (inl h) (inr c) = inr c
spares_both C t u (inl h) (inl k) = inl (throughout_both IsDry t u h k)

pub spares_first : (C : Type 0) (t u : List Event) → Spares C (t ++ u) → Spares C t
spares_first C t u (inl h) = inl (throughout_first IsDry t u h)
spares_first C t u (inr c) = inr c

pub spares_as : (C K : Type 0) (t : List Event) → (C → K) → Spares C t → Spares K t
spares_as C K t into (inl h) = inl h
spares_as C K t into (inr c) = inr (into c)

pub spares_more : (C : Type 0) (t first rest : List Event) → t ≡ first ++ rest → Spares C first → Throughout IsDry rest → Spares C t
spares_more C t first rest splits h dry = subst (Spares C) (sym splits) (spares_both C first rest h (inl dry))

-- without an open none is missing
pub none_missing : (s : Outside) (t : List Event) → Throughout (λ e. IsMissing s e → ⊥) t → Happened (IsMissing s) t → ⊥
none_missing s [] each h = h
none_missing s (e ∷ t) each (inl first) = each.0 first
none_missing s (e ∷ t) each (inr later) = none_missing s t each.1 later

-- nothing is read any more
pub comes_print : (Is : Answer → Type 0) (C : Type 0) (s : Outside) (a : Answer) (t u : List Event) (status : Status) → Is a → Prints a (t ++ u) status → ComesTo Is C s t u status
comes_print Is C s a t u status is h = answered a [] t refl tt (inl tt) is h

pub comes_as : (Is J : Answer → Type 0) (C K : Type 0) (s m : Outside) → ((a : Answer) → Is a → J a) → ((a : Answer) → J a → Is a) → (C → K) → (IsReliable s → IsReliable m)
    → (t u : List Event) (status : Status) → ComesTo Is C m t u status → ComesTo J K s t u status
comes_as Is J C K s m into back came fine t u status (reading few reads spares) = reading few reads (spares_as C K t came spares)
comes_as Is J C K s m into back came fine t u status (unread first rest splits reads spares failed h none) =
    unread first rest splits reads (spares_as C K first came spares) failed h (λ r a j. none (fine r) a (back a j))
comes_as Is J C K s m into back came fine t u status (answered a first rest splits reads spares is h) = answered a first rest splits reads (spares_as C K first came spares) (into a is) h

module _ (Is : Answer → Type 0) (C : Type 0) (s : Outside) where
  split_after : (before t first rest : List Event) → t ≡ first ++ rest → before ++ t ≡ (before ++ first) ++ rest
  split_after before t first rest splits = ap (λ (l : List Event). before ++ l) splits ∙ sym (append_assoc before first rest)

  pub comes_after : (before t u : List Event) (status : Status) → Throughout IsFileRead before → Spares C before → ComesTo Is C s t u status → ComesTo Is C s (before ++ t) u status
  comes_after before t u status reads spares (reading few more others) = reading few (throughout_both IsFileRead before t reads more) (spares_both C before t spares others)
  comes_after before t u status reads spares (unread first rest splits more others failed h none) =
      unread (before ++ first) rest (split_after before t first rest splits) (throughout_both IsFileRead before first reads more) (spares_both C before first spares others) (happened_last (IsFailure Reads) before first failed) h none
  comes_after before t u status reads spares (answered a first rest splits more others is h) =
      answered a (before ++ first) rest (split_after before t first rest splits) (throughout_both IsFileRead before first reads more) (spares_both C before first spares others) is h

-- ---- a step that reads, and what follows of its answer

module _ {A : Type 0} (S : Step A) (W : A → Step Status) (Is : Outside → Answer → Type 0) (C : Outside → Type 0) (reads : Keeps IsFileRead S) (spares : (s : Outside) (t : List Event) (a : A) → S t a → Spares (C s) t)
    (each : (a : A) (t u v : List Event) (status : Status) (s m n : Outside) → S t a → W a (u ++ v) status → Fits t s m → Fits u m n → ComesTo (Is s) (C s) s (t ++ u) v status) where
  comes_cut : (t u : List Event) (status : Status) (s n : Outside) (h : Then S W (t ++ u) status) → Fits t s n → Cut h.first h.rest t u → ComesTo (Is s) (C s) s t u status
  comes_cut t u status s n h f (past more splits after) =
      let parts = fits_both h.first more s n (subst (λ (l : List Event). Fits l s n) splits f) in
      subst (λ (l : List Event). ComesTo (Is s) (C s) s l u status) (sym splits)
      (each h.between h.first more u status s parts.0 n h.does (subst (λ (l : List Event). W h.between l status) after h.goes) parts.1 parts.2)
  comes_cut t u status s n h f (within e more splits later) =
      reading (omega (arith, ap length later)) (throughout_first IsFileRead t (e ∷ more) (subst (Throughout IsFileRead) splits (reads h.first h.between h.does)))
      (spares_first (C s) t (e ∷ more) (subst (Spares (C s)) splits (spares s h.first h.between h.does)))

  pub comes_then : Comes Is C (Then S W)
  comes_then t u status s n h f = comes_cut t u status s n h f (cut h.first h.rest t u h.splits)

-- ---- a file

module _ (slot : Slot) (name : List ℕ) (limit : ℕ) (W : Option (List ℕ) → Step Status) (Is : Outside → Answer → Type 0) (C : Outside → Type 0) (own : IsFileSlot slot) (kind : slot_kind slot ≡ Reads)
    (dry : (s : Outside) → IsSchemaSlot slot ⊎ C s) (none : (t : List Event) (status : Status) → W None t status → Unread t status) (there : (s : Outside) (a : Answer) → Is s a → IsThere name s.view)
    (some : (text file : List ℕ) (t u v : List Event) (status : Status) (s m n : Outside) → ReadsFile slot name limit t (Some text) → HasFile s.view.files name file → text ≡ take (limit + 1) file → W (Some text) (u ++ v) status
    → Fits t s m → Fits u m n → ComesTo (Is s) (C s) s u v status) where
  read_spares : (s : Outside) (t : List Event) (text : Option (List ℕ)) → ReadsFile slot name limit t text → Spares (C s) t
  read_spares s t text h = elim (dry s) [
    | inl only ↦ inl (keeps_file IsDry slot name limit (λ ok. only) (λ bytes. only) only only t text h)
    | inr came ↦ inr came
  ]

  file_reads : Keeps IsFileRead (ReadsFile slot name limit)
  file_reads = keeps_file IsFileRead slot name limit (λ ok. own) (λ bytes. own) own own

  file_read : (text : Option (List ℕ)) (t u v : List Event) (status : Status) (s m n : Outside) → ReadsFile slot name limit t text → W text (u ++ v) status → Fits t s m → Fits u m n → ComesTo (Is s) (C s) s (t ++ u) v status
  file_read (Some text) t u v status s m n h goes f g =
      let r = files_are_read slot name limit t text s m h f in
      comes_after (Is s) (C s) s t u v status (file_reads t (Some text) h) (read_spares s t (Some text) h) (some text r.0 t u v status s m n h r.1 r.2 goes f g)
  file_read None t u v status s m n h goes f g =
      unread t u refl (file_reads t None h) (read_spares s t None h) (subst (λ (k : Kind). Happened (IsFailure k) t) kind (unread_file slot name limit t h)) (none (u ++ v) status goes)
      (λ r a is. files_can_be_read slot name limit t s m h f r (there s a is))

  pub comes_file : Comes Is C (Then (ReadsFile slot name limit) W)
  comes_file = comes_then (ReadsFile slot name limit) W Is C file_reads read_spares file_read
