-- What is read leaves all but the slots as it was, and what is written all but its out.
use Rattle.std.proofs.Common.{◌≡◌, ℕ, List, [], ◌∷◌, ◌++◌, map, Bool, true, false, sym, ap, ◌∙◌, subst}
use Rattle.tl_base.specs.Outside.{View, Left, with_slot, left_of, written_of, with_written}
use Rattle.tl_base.specs.declared.host.Out.{Out}
use Rattle.outside.specs.Events.{Event, Outside, opened, took, ended, read_failed, created, put, write_failed, listened, connected, accepted, told}
use Rattle.outside.specs.Laws.{Throughout}
use Rattle.outside.specs.Pieces.{Writes}
use Rattle.outside.specs.Fits.{Happens, Fits}
use Rattle.outside.proofs.Sparing.{IsReading}

-- ---- what is read

abbrev pub with_slots : Left → View → View
with_slots l v = record v { left = l }

-- nothing but slots has changed
abbrev pub OnlySlots : Outside → Outside → Type 0
OnlySlots s n = n.view ≡ with_slots n.view.left s.view

only : (l : Left) (s n : Outside) → n.view ≡ with_slots l s.view → OnlySlots s n
only l s n is = is ∙ sym (ap (λ (v : View). with_slots v.left s.view) is)

read_spares : (e : Event) (s n : Outside) → Happens e s n → IsReading e → OnlySlots s n
read_spares (opened slot name true) s n h k = only (with_slot slot h.0.0 s.view.left) s n h.0.2
read_spares (opened slot name false) s n h k = only s.view.left s n h.0
read_spares (took slot bytes) s n h k = only (with_slot slot (left_of slot n.view) s.view.left) s n h.1
read_spares (ended slot) s n h k = only s.view.left s n h.1
read_spares (read_failed slot) s n h k = only s.view.left s n h.0
read_spares (created out name ok) s n h k = absurd k
read_spares (put out bytes) s n h k = absurd k
read_spares (write_failed out) s n h k = absurd k
read_spares (listened address ok) s n h k = absurd k
read_spares (connected address ok) s n h k = absurd k
read_spares (accepted ok) s n h k = absurd k
read_spares (told moment) s n h k = absurd k

pub reading_spares : (t : List Event) (s n : Outside) → Fits t s n → Throughout IsReading t → OnlySlots s n
reading_spares [] s n f k = only s.view.left s n (ap (λ (o : Outside). o.view) f)
reading_spares (e ∷ t) s n f k = reading_spares t f.0 n f.2 k.1 ∙ ap (with_slots n.view.left) (read_spares e s f.0 f.1 k.0)

-- ---- what is written

-- a part of the view that is none of the out's
module _ {A : Type 0} (out : Out) (part : View → A) (apart : (bytes : List ℕ) (v : View) → part (with_written out bytes v) ≡ part v) where
  pieces_spare : (pieces : List (List ℕ)) (last : List Event) (s n : Outside) → ((m : Outside) → Fits last m n → part n.view ≡ part m.view) → Fits (map (put out) pieces ++ last) s n → part n.view ≡ part s.view
  pieces_spare [] last s n end f = end s f
  pieces_spare (p ∷ pieces) last s n end f = pieces_spare pieces last f.0 n end f.2 ∙ (ap part f.1.0 ∙ apart (written_of out s.view ++ p) s.view)

  pub writes_spare : (bytes : List ℕ) (t : List Event) (ok : Bool) (s n : Outside) → Writes out bytes t ok → Fits t s n → part n.view ≡ part s.view
  writes_spare bytes t true s n h f = pieces_spare h.pieces [] s n (λ m g. ap (λ (o : Outside). part o.view) g) (subst (λ (l : List Event). Fits l s n) h.events f)
  writes_spare bytes t false s n h f =
      pieces_spare h.2.pieces (write_failed out ∷ []) s n (λ m g. ap (λ (o : Outside). part o.view) g.2 ∙ ap part g.1.0) (subst (λ (l : List Event). Fits l s n) h.2.events f)
