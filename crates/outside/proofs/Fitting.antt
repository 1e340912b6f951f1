-- What fits the files of an outside: what was read of them, and why a call failed.
use Rattle.std.proofs.Common.{◌≡◌, ℕ, ◌+◌, ◌<◌, length, take, List, [], ◌∷◌, ◌++◌, map, Bool, true, false, Option, Some, None, refl, sym, ap, ◌∙◌, subst, arith, inl, inr, append_assoc, append-nil}
use Rattle.std.specs.Prelude.{IfSome}
use Rattle.std.proofs.lemmas.List.{length-append, take_all, take-append-le}
use Rattle.tl_base.proofs.Parts.{left_back, written_back}
use Rattle.tl_base.specs.Kinds.{out_kind}
use Rattle.tl_base.specs.Outside.{View, HasFile, IsFile, IsThere, left_of, with_left, written_of, with_written}
use Rattle.tl_base.specs.Calls.{with_name, link_taken}
use Rattle.tl_base.specs.Scripts.{ScriptView}
use Rattle.tl_base.specs.declared.counts.Kind.TheVariants as kinds
use Rattle.tl_base.specs.declared.host.Slot.{Slot}
use Rattle.tl_base.specs.declared.host.Out.{Out}
use Rattle.tl_base.specs.declared.host.Out.TheVariants as outs
use Rattle.tl_base.specs.declared.mem_script.HostCall.{HostCall}
use Rattle.tl_base.specs.declared.mem_script.HostCall.TheVariants.{Open, Read, Create, Write, Listen, Connect, Accept}
use Rattle.outside.specs.Events.{Event, Outside, opened, took, ended, read_failed, created, put, write_failed, listened, connected, accepted, told}
use Rattle.outside.specs.Laws.{Happened, IsFailure}
use Rattle.outside.specs.Pieces.{joined, InPieces, TakenView, full, short, broken, Takes, Writes, ReadsSlot, after_open, text_of}
use Rattle.outside.specs.Fits.{Happens, Fits, IsToFail, Made}
use Rattle.outside.specs.Reliable.{IsReliable, IsMissing, FilesAreRead, ReadsFailAlone, FilesCanBeRead, WritesAppend, WritesFailFull}

pub fits_both : (t u : List Event) (s n : Outside) → Fits (t ++ u) s n → (m : Outside) × Fits t s m × Fits u m n
fits_both [] u s n f = (s, refl, f)
fits_both (e ∷ t) u s n f = let r = fits_both t u f.0 n f.2 in (r.0, (f.0, f.1, r.1), r.2)

-- ---- what no event changes

-- the same files, the same room, and the same calls that are to fail
pub record Keeps (s n : Outside) : Type 0 where
  pub files : n.view.files ≡ s.view.files
  pub room : n.view.room ≡ s.view.room
  pub fails : n.script.fails ≡ s.script.fails

kept_both : (s m n : Outside) → Keeps s m → Keeps m n → Keeps s n
kept_both s m n a b = record { files = b.files ∙ a.files; room = b.room ∙ a.room; fails = b.fails ∙ a.fails }

viewed : (s n : Outside) (view : View) → n.view ≡ view → view.files ≡ s.view.files → view.room ≡ s.view.room → n.script.fails ≡ s.script.fails → Keeps s n
viewed s n view is same room fails = record { files = ap (λ (v : View). v.files) is ∙ same; room = ap (λ (v : View). v.room) is ∙ room; fails = fails }

made : (call : HostCall) (s n : Outside) → Made call s n → n.script.fails ≡ s.script.fails
made call s n h = ap (λ (x : ScriptView). x.fails) h

named_files : (out : Out) (name : List ℕ) (v : View) → (with_name out name (with_written out [] v)).files ≡ v.files
named_files outs.Output name v = refl
named_files outs.Errors name v = refl
named_files outs.State name v = refl
named_files outs.Link name v = refl

named_room : (out : Out) (name : List ℕ) (v : View) → (with_name out name (with_written out [] v)).room ≡ v.room
named_room outs.Output name v = refl
named_room outs.Errors name v = refl
named_room outs.State name v = refl
named_room outs.Link name v = refl

happens_keeps : (e : Event) (s n : Outside) → Happens e s n → Keeps s n
happens_keeps (opened slot name true) s n h = viewed s n (with_left slot h.0.0 s.view) h.0.2 refl refl (made Open s n h.1.1)
happens_keeps (opened slot name false) s n h = viewed s n s.view h.0 refl refl (made Open s n h.1.1)
happens_keeps (took slot bytes) s n h = viewed s n (with_left slot (left_of slot n.view) s.view) h.1 refl refl (made (Read slot) s n h.3)
happens_keeps (ended slot) s n h = viewed s n s.view h.1 refl refl (made (Read slot) s n h.3)
happens_keeps (read_failed slot) s n h = viewed s n s.view h.0 refl refl (made (Read slot) s n h.2)
happens_keeps (created out name true) s n h = viewed s n (with_name out name (with_written out [] s.view)) h.0 (named_files out name s.view) (named_room out name s.view) (made Create s n h.1.1)
happens_keeps (created out name false) s n h = viewed s n s.view h.0 refl refl (made Create s n h.1.1)
happens_keeps (put out bytes) s n h = viewed s n (with_written out (written_of out s.view ++ bytes) s.view) h.0 refl refl (made (Write out) s n h.2)
happens_keeps (write_failed out) s n h = viewed s n s.view h.0 refl refl (made (Write out) s n h.2)
happens_keeps (listened address true) s n h = viewed s n (record s.view { address = Some address }) h.0 refl refl (made Listen s n h.1.1)
happens_keeps (listened address false) s n h = viewed s n s.view h.0 refl refl (made Listen s n h.1.1)
happens_keeps (connected address true) s n h = viewed s n (record (link_taken s.view) { address = Some address }) h.0.1 refl refl (made Connect s n h.1.1)
happens_keeps (connected address false) s n h = viewed s n s.view h.0 refl refl (made Connect s n h.1.1)
happens_keeps (accepted true) s n h = viewed s n (link_taken s.view) h.0.1 refl refl (made Accept s n h.1.1)
happens_keeps (accepted false) s n h = viewed s n s.view h.0 refl refl (made Accept s n h.1.1)
happens_keeps (told moment) s n h = record { files = ap (λ (v : View). v.files) h.0.1; room = ap (λ (v : View). v.room) h.0.1; fails = ap (λ (x : ScriptView). x.fails) h.1 }

pub fits_keeps : (t : List Event) (s n : Outside) → Fits t s n → Keeps s n
fits_keeps [] s n f = record { files = ap (λ (o : Outside). o.view.files) f; room = ap (λ (o : Outside). o.view.room) f; fails = ap (λ (o : Outside). o.script.fails) f }
fits_keeps (e ∷ t) s n f = kept_both s f.0 n (happens_keeps e s f.0 f.1) (fits_keeps t f.0 n f.2)

pub reliable_on : (s n : Outside) → Keeps s n → IsReliable s → IsReliable n
reliable_on s n k r = ap length k.fails ∙ r

never_fails : (call : HostCall) (s : Outside) → IsReliable s → IsToFail call s → ⊥
never_fails call s r fails = absurd (omega (arith, fails.1, r))

-- ---- files

took_pieces : (slot : Slot) (pieces : List (List ℕ)) (last : List Event) (s n : Outside) → Fits (map (took slot) pieces ++ last) s n
    → (m : Outside) × (left_of slot s.view ≡ joined pieces ++ left_of slot m.view) × Keeps s m × Fits last m n
took_pieces slot [] last s n f = (s, refl, record { files = refl; room = refl; fails = refl }, f)
took_pieces slot (p ∷ pieces) last s n f =
    let r = took_pieces slot pieces last f.0 n f.2 in
    (r.0, f.1.0 ∙ (ap (λ (l : List ℕ). p ++ l) r.1 ∙ sym (append_assoc p (joined pieces) (left_of slot r.0.view))), kept_both s f.0 r.0 (happens_keeps (took slot p) s f.0 f.1) r.2, r.3)

pub took_bytes : (slot : Slot) (bytes : List ℕ) (last t : List Event) (s n : Outside) → InPieces (took slot) bytes last t → Fits t s n
    → (m : Outside) × (left_of slot s.view ≡ bytes ++ left_of slot m.view) × Keeps s m × Fits last m n
took_bytes slot bytes last t s n q f =
    let r = took_pieces slot q.pieces last s n (subst (λ (l : List Event). Fits l s n) q.events f) in
    (r.0, r.1 ∙ ap (λ (l : List ℕ). l ++ left_of slot r.0.view) q.join, r.2, r.3)

taken_text : (slot : Slot) (count : ℕ) (t : List Event) (taken : TakenView) (s n : Outside) → Takes slot count t taken → Fits t s n → IfSome (text_of taken) (λ text. text ≡ take count (left_of slot s.view))
taken_text slot count t (full bytes) s n h f =
    let r = took_bytes slot bytes [] t s n h.0 f in
    let size : length bytes ≡ count = h.1 in
    sym (ap (take count) r.1 ∙ (take-append-le count bytes (left_of slot r.0.view) (omega (arith, size)) ∙ take_all count bytes (omega (arith, size))))
taken_text slot count t (short bytes) s n h f =
    let r = took_bytes slot bytes (ended slot ∷ []) t s n h.0 f in
    let whole : left_of slot s.view ≡ bytes = r.1 ∙ (ap (λ (l : List ℕ). bytes ++ l) r.3.1.0 ∙ append-nil bytes) in
    let size : length bytes < count = h.1 in
    sym (ap (take count) whole ∙ take_all count bytes (omega (arith, size)))
taken_text slot count t broken s n h f = tt

slot_text : (slot : Slot) (limit : ℕ) (t : List Event) (text : Option (List ℕ)) (s n : Outside) → ReadsSlot slot limit t text → Fits t s n → IfSome text (λ x. x ≡ take (limit + 1) (left_of slot s.view))
slot_text slot limit t text s n h f =
    let parts = fits_both h.first h.rest s n (subst (λ (l : List Event). Fits l s n) h.splits f) in
    subst (λ (o : Option (List ℕ)). IfSome o (λ x. x ≡ take (limit + 1) (left_of slot s.view))) (sym h.goes.1) (taken_text slot (limit + 1) h.first h.between s parts.0 h.does parts.1)

open_text : (slot : Slot) (name : List ℕ) (limit : ℕ) (ok : Bool) (t u : List Event) (text : List ℕ) (s n : Outside) → t ≡ opened slot name ok ∷ [] → after_open slot limit ok u (Some text) → Fits (t ++ u) s n
    → (file : List ℕ) × HasFile s.view.files name file × (text ≡ take (limit + 1) file)
open_text slot name limit true t u text s n is h f =
    let g = subst (λ (l : List Event). Fits (l ++ u) s n) is f in
    (g.1.0.0, g.1.0.1, slot_text slot limit u (Some text) g.0 n h g.2 ∙ ap (take (limit + 1)) (ap (left_of slot) g.1.0.2 ∙ left_back slot g.1.0.0 s.view))
open_text slot name limit false t u text s n is h f = absurd (let no : Some text ≡ None = h.1 in cc)

pub files_are_read : FilesAreRead
files_are_read slot name limit t text s n h f = open_text slot name limit h.between h.first h.rest text s n h.does h.goes (subst (λ (l : List Event). Fits l s n) h.splits f)

-- ---- failures

out_reads : (out : Out) → Some (out_kind out) ≡ Some kinds.Reads → ⊥
out_reads outs.Output is = let no : Some kinds.Writes ≡ Some kinds.Reads = is in cc
out_reads outs.Errors is = let no : Some kinds.Writes ≡ Some kinds.Reads = is in cc
out_reads outs.State is = let no : Some kinds.Writes ≡ Some kinds.Reads = is in cc
out_reads outs.Link is = let no : Some kinds.Links ≡ Some kinds.Reads = is in cc

missing_here : (e : Event) (s n : Outside) → Happens e s n → IsReliable s → IsFailure kinds.Reads e → IsMissing s e
missing_here (opened slot name true) s n h r is = absurd (let no : None ≡ Some kinds.Reads = is in cc)
missing_here (opened slot name false) s n h r is = elim h.1.0 [ inl fails ↦ absurd (never_fails Open s r fails) | inr none ↦ none ]
missing_here (took slot bytes) s n h r is = absurd (let no : None ≡ Some kinds.Reads = is in cc)
missing_here (ended slot) s n h r is = absurd (let no : None ≡ Some kinds.Reads = is in cc)
missing_here (read_failed slot) s n h r is = absurd (never_fails (Read slot) s r h.1)
missing_here (created out name true) s n h r is = absurd (let no : None ≡ Some kinds.Reads = is in cc)
missing_here (created out name false) s n h r is = absurd (out_reads out is)
missing_here (put out bytes) s n h r is = absurd (let no : None ≡ Some kinds.Reads = is in cc)
missing_here (write_failed out) s n h r is = absurd (out_reads out is)
missing_here (listened address true) s n h r is = absurd (let no : None ≡ Some kinds.Reads = is in cc)
missing_here (listened address false) s n h r is = absurd (let no : Some kinds.Links ≡ Some kinds.Reads = is in cc)
missing_here (connected address true) s n h r is = absurd (let no : None ≡ Some kinds.Reads = is in cc)
missing_here (connected address false) s n h r is = absurd (let no : Some kinds.Links ≡ Some kinds.Reads = is in cc)
missing_here (accepted true) s n h r is = absurd (let no : None ≡ Some kinds.Reads = is in cc)
missing_here (accepted false) s n h r is = absurd (let no : Some kinds.Links ≡ Some kinds.Reads = is in cc)
missing_here (told moment) s n h r is = absurd (let no : None ≡ Some kinds.Reads = is in cc)

missing_same : (e : Event) (s m : Outside) → m.view.files ≡ s.view.files → IsMissing m e → IsMissing s e
missing_same (opened slot name false) s m is h = λ there. h (subst (λ fs. IsFile fs name) (sym is) there)
missing_same (opened slot name true) s m is h = absurd h
missing_same (took slot bytes) s m is h = absurd h
missing_same (ended slot) s m is h = absurd h
missing_same (read_failed slot) s m is h = absurd h
missing_same (created out name ok) s m is h = absurd h
missing_same (put out bytes) s m is h = absurd h
missing_same (write_failed out) s m is h = absurd h
missing_same (listened address ok) s m is h = absurd h
missing_same (connected address ok) s m is h = absurd h
missing_same (accepted ok) s m is h = absurd h
missing_same (told moment) s m is h = absurd h

missing_all : (t : List Event) (s m : Outside) → m.view.files ≡ s.view.files → Happened (IsMissing m) t → Happened (IsMissing s) t
missing_all [] s m is h = absurd h
missing_all (e ∷ t) s m is (inl here) = inl (missing_same e s m is here)
missing_all (e ∷ t) s m is (inr later) = inr (missing_all t s m is later)

pub reads_fail_alone : ReadsFailAlone
reads_fail_alone [] s n f r h = absurd h
reads_fail_alone (e ∷ t) s n f r (inl here) = inl (missing_here e s f.0 f.1 r here)
reads_fail_alone (e ∷ t) s n f r (inr later) =
    let k = happens_keeps e s f.0 f.1 in
    inr (missing_all t s f.0 k.files (reads_fail_alone t f.0 n f.2 (reliable_on s f.0 k r) later))

can_be_taken : (slot : Slot) (count : ℕ) (t : List Event) (taken : TakenView) (s n : Outside) → Takes slot count t taken → text_of taken ≡ None → Fits t s n → IsReliable s → ⊥
can_be_taken slot count t (full bytes) s n h is f r = absurd (let no : Some bytes ≡ None = is in cc)
can_be_taken slot count t (short bytes) s n h is f r = absurd (let no : Some bytes ≡ None = is in cc)
can_be_taken slot count t broken s n h is f r =
    let g = took_bytes slot h.0 (read_failed slot ∷ []) t s n h.1 f in
    never_fails (Read slot) g.0 (reliable_on s g.0 g.2 r) g.3.1.1

can_be_read : (slot : Slot) (name : List ℕ) (limit : ℕ) (ok : Bool) (t u : List Event) (s n : Outside) → t ≡ opened slot name ok ∷ [] → after_open slot limit ok u None → Fits (t ++ u) s n → IsReliable s → IsThere name s.view → ⊥
can_be_read slot name limit true t u s n is h f r there =
    let g = subst (λ (l : List Event). Fits (l ++ u) s n) is f in
    let parts = fits_both h.first h.rest g.0 n (subst (λ (l : List Event). Fits l g.0 n) h.splits g.2) in
    can_be_taken slot (limit + 1) h.first h.between g.0 parts.0 h.does (sym h.goes.1) parts.1 (reliable_on s g.0 (happens_keeps (opened slot name true) s g.0 g.1) r)
can_be_read slot name limit false t u s n is h f r there =
    let g = subst (λ (l : List Event). Fits (l ++ u) s n) is f in
    elim g.1.1.0 [ inl fails ↦ never_fails Open s r fails | inr none ↦ none there ]

pub files_can_be_read : FilesCanBeRead
files_can_be_read slot name limit t s n h f r there = can_be_read slot name limit h.between h.first h.rest s n h.does h.goes (subst (λ (l : List Event). Fits l s n) h.splits f) r there

-- ---- outs

put_pieces : (out : Out) (pieces : List (List ℕ)) (last : List Event) (s n : Outside) → Fits (map (put out) pieces ++ last) s n
    → (m : Outside) × (written_of out m.view ≡ written_of out s.view ++ joined pieces) × Keeps s m × Fits last m n
put_pieces out [] last s n f = (s, sym (append-nil (written_of out s.view)), record { files = refl; room = refl; fails = refl }, f)
put_pieces out (p ∷ pieces) last s n f =
    let r = put_pieces out pieces last f.0 n f.2 in
    let one : written_of out f.0.view ≡ written_of out s.view ++ p = ap (written_of out) f.1.0 ∙ written_back out (written_of out s.view ++ p) s.view in
    (r.0, r.1 ∙ (ap (λ (l : List ℕ). l ++ joined pieces) one ∙ append_assoc (written_of out s.view) p (joined pieces)), kept_both s f.0 r.0 (happens_keeps (put out p) s f.0 f.1) r.2, r.3)

put_bytes : (out : Out) (bytes : List ℕ) (last t : List Event) (s n : Outside) → InPieces (put out) bytes last t → Fits t s n → (m : Outside) × (written_of out m.view ≡ written_of out s.view ++ bytes) × Keeps s m × Fits last m n
put_bytes out bytes last t s n q f =
    let r = put_pieces out q.pieces last s n (subst (λ (l : List Event). Fits l s n) q.events f) in
    (r.0, r.1 ∙ ap (λ (l : List ℕ). written_of out s.view ++ l) q.join, r.2, r.3)

pub writes_append : WritesAppend
writes_append out bytes t s n h f = let r = put_bytes out bytes [] t s n h f in ap (λ (o : Outside). written_of out o.view) r.3 ∙ r.1

no_room_for : (out : Out) (before after bytes : List ℕ) (s m n : Outside) → Happens (write_failed out) m n → before ++ after ≡ bytes → 0 < length after → written_of out m.view ≡ written_of out s.view ++ before → m.view.room ≡ s.view.room → IsReliable m → s.view.room < length (written_of out s.view) + length bytes
no_room_for out before after bytes s m n h join some wrote room r = elim h.1 [
  | inl fails ↦ absurd (never_fails (Write out) m r fails)
  | inr no_room ↦ omega (arith, no_room, room, some, ap length join, length-append before after, ap length wrote, length-append (written_of out s.view) before)
]

pub writes_fail_full : WritesFailFull
writes_fail_full out bytes t s n (before, after, q, join, some) f r =
    let g = put_bytes out before (write_failed out ∷ []) t s n q f in
    no_room_for out before after bytes s g.0 g.3.0 g.3.1 join some g.1 g.2.room (reliable_on s g.0 g.2 r)
