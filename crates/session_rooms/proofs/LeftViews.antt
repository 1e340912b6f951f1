-- What a run of `client` leaves of an outside, by its events.
use Rattle.std.proofs.Common.{◌≡◌, ℕ, ◌-◌, List, [], ◌∷◌, ◌++◌, length, append-nil, drop, true, false, Some, refl, sym, ap, ◌∙◌, subst, arith}
use Rattle.std.proofs.lemmas.List.{get_or_at, set_at, length-append}
use Rattle.tl_base.specs.Calls.{link_taken, with_name}
use Rattle.tl_base.specs.Outside.{View, Left, last_or, with_last, written_of, with_written}
use Rattle.tl_base.specs.declared.host.Out.{Out}
use Rattle.tl_base.specs.declared.host.Out.TheVariants as outs
use Rattle.outside.specs.Answer.{Answer, printed, done}
use Rattle.outside.specs.Kept.{Leaves, address_after, name_after, bytes_after}
use Rattle.outside.specs.declared.status.Status.{Status}
use Rattle.outside.specs.Events.{Event, Outside, opened, took, ended, read_failed, created, put, write_failed, listened, connected, accepted, told}
use Rattle.outside.specs.Laws.{Throughout}
use Rattle.outside.specs.Fits.{Happens, Fits}
use Rattle.codec_rooms.specs.Laws.{IsPrinted}
use Rattle.session_commands.specs.Linked.{over_link, saves_after}

-- what each of such events leaves, all of them leave
module _ {A : Type 0} (part : View → A) (P : Event → Type 0) (each : (e : Event) (s n : Outside) → Happens e s n → P e → part n.view ≡ part s.view) where
  pub all_leave : (t : List Event) (s n : Outside) → Throughout P t → Fits t s n → part n.view ≡ part s.view
  all_leave [] s n k f = ap (λ (o : Outside). part o.view) f
  all_leave (e ∷ t) s n k f = all_leave t f.0 n k.1 f.2 ∙ each e s f.0 f.1 k.0

-- ---- Output

-- ---- all but slots, Output and Errors

abbrev none_left : Left
none_left = record { schema = []; input = []; state = []; link = [] }

abbrev pub beside : View → View
beside v = record v { left = none_left; written = record v.written { output = []; errors = [] } }

-- slots are read, and Output and Errors are written to
abbrev pub SparesRest : Event → Type 0
SparesRest (opened slot name ok) = Unit {0}
SparesRest (took slot bytes) = Unit {0}
SparesRest (ended slot) = Unit {0}
SparesRest (read_failed slot) = Unit {0}
SparesRest (created out name ok) = ⊥
SparesRest (put out bytes) = IsPrinted out
SparesRest (write_failed out) = Unit {0}
SparesRest (listened address ok) = ⊥
SparesRest (connected address ok) = ⊥
SparesRest (accepted ok) = ⊥
SparesRest (told moment) = ⊥

print_spares : (out : Out) (bytes : List ℕ) (v : View) → IsPrinted out → beside (with_written out bytes v) ≡ beside v
print_spares outs.Output bytes v k = refl
print_spares outs.Errors bytes v k = refl
print_spares outs.State bytes v k = absurd k
print_spares outs.Link bytes v k = absurd k

rest_spared : (e : Event) (s n : Outside) → Happens e s n → SparesRest e → beside n.view ≡ beside s.view
rest_spared (opened slot name true) s n h k = ap beside h.0.2
rest_spared (opened slot name false) s n h k = ap beside h.0
rest_spared (took slot bytes) s n h k = ap beside h.1
rest_spared (ended slot) s n h k = ap beside h.1
rest_spared (read_failed slot) s n h k = ap beside h.0
rest_spared (created out name ok) s n h k = absurd k
rest_spared (put out bytes) s n h k = ap beside h.0 ∙ print_spares out (written_of out s.view ++ bytes) s.view k
rest_spared (write_failed out) s n h k = ap beside h.0
rest_spared (listened address ok) s n h k = absurd k
rest_spared (connected address ok) s n h k = absurd k
rest_spared (accepted ok) s n h k = absurd k
rest_spared (told moment) s n h k = absurd k

pub spares_rest : (t : List Event) (s n : Outside) → Throughout SparesRest t → Fits t s n → beside n.view ≡ beside s.view
spares_rest = all_leave beside SparesRest rest_spared

-- an answer that writes to Output and Errors alone
pub plain_leaves : (s : Status) (output line : List ℕ) (v w : View) → beside w ≡ beside v → Leaves (printed s output line) v w
plain_leaves s output line v w same = record {
  files = ap (λ (u : View). u.files) same;
  moments = ap (λ (u : View). u.moments) same;
  coming = ap (λ (u : View). u.links) same;
  state_name = ap (λ (u : View). u.state_name) same;
  state = ap (λ (u : View). u.written.state) same;
  links = ap (λ (u : View). u.written.links) same ∙ sym (append-nil v.written.links);
  address = ap (λ (u : View). u.address) same;
}

-- nothing but that was written before it, or after it
pub leaves_later : (a : Answer) (v u w : View) → beside u ≡ beside v → Leaves a u w → Leaves a v w
leaves_later a v u w same l = record {
  files = l.files ∙ ap (λ (x : View). x.files) same;
  moments = l.moments ∙ ap (λ (x : View). drop a.moments x.moments) same;
  coming = l.coming ∙ ap (λ (x : View). drop a.taken x.links) same;
  state_name = l.state_name ∙ ap (λ (x : View). name_after a.state x.state_name) same;
  state = l.state ∙ ap (λ (x : View). bytes_after a.state x.written.state) same;
  links = l.links ∙ ap (λ (x : View). x.written.links ++ a.links) same;
  address = l.address ∙ ap (λ (x : View). address_after a.address x.address) same;
}

pub leaves_then : (a : Answer) (v u w : View) → Leaves a v u → beside w ≡ beside u → Leaves a v w
leaves_then a v u w l same = record {
  files = ap (λ (x : View). x.files) same ∙ l.files;
  moments = ap (λ (x : View). x.moments) same ∙ l.moments;
  coming = ap (λ (x : View). x.links) same ∙ l.coming;
  state_name = ap (λ (x : View). x.state_name) same ∙ l.state_name;
  state = ap (λ (x : View). x.written.state) same ∙ l.state;
  links = ap (λ (x : View). x.written.links) same ∙ l.links;
  address = ap (λ (x : View). x.address) same ∙ l.address;
}

-- ---- a link

-- all that a conversation over a link leaves
abbrev pub unlinked : View → View
unlinked v = record v { left = none_left; written = record v.written { unlinked = []; links = [] } }

-- slots are read, and the link is written to
abbrev pub IsOverLink : Event → Type 0
IsOverLink (opened slot name ok) = ⊥
IsOverLink (took slot bytes) = Unit {0}
IsOverLink (ended slot) = Unit {0}
IsOverLink (read_failed slot) = Unit {0}
IsOverLink (created out name ok) = ⊥
IsOverLink (put out bytes) = out ≡ outs.Link
IsOverLink (write_failed out) = Unit {0}
IsOverLink (listened address ok) = ⊥
IsOverLink (connected address ok) = ⊥
IsOverLink (accepted ok) = ⊥
IsOverLink (told moment) = ⊥

link_put : (out : Out) (s n : Outside) (bytes : List ℕ) → n.view ≡ with_written out (written_of out s.view ++ bytes) s.view → out ≡ outs.Link → n.view ≡ with_written outs.Link (written_of outs.Link s.view ++ bytes) s.view
link_put out s n bytes is same = subst (λ (o : Out). n.view ≡ with_written o (written_of o s.view ++ bytes) s.view) same is

link_spared : (e : Event) (s n : Outside) → Happens e s n → IsOverLink e → unlinked n.view ≡ unlinked s.view
link_spared (opened slot name ok) s n h k = absurd k
link_spared (took slot bytes) s n h k = ap unlinked h.1
link_spared (ended slot) s n h k = ap unlinked h.1
link_spared (read_failed slot) s n h k = ap unlinked h.0
link_spared (created out name ok) s n h k = absurd k
link_spared (put out bytes) s n h k = ap unlinked (link_put out s n bytes h.0 k)
link_spared (write_failed out) s n h k = ap unlinked h.0
link_spared (listened address ok) s n h k = absurd k
link_spared (connected address ok) s n h k = absurd k
link_spared (accepted ok) s n h k = absurd k
link_spared (told moment) s n h k = absurd k

last_is : (none x : List ℕ) (ls : List (List ℕ)) → last_or none (ls ++ x ∷ []) ≡ x
last_is none x ls = get_or_at ls x [] none (length (ls ++ x ∷ []) - 1) (omega (arith, length-append ls (x ∷ [])))

last_set : (out x : List ℕ) (ls : List (List ℕ)) → with_last out (ls ++ x ∷ []) ≡ ls ++ out ∷ []
last_set out x ls = set_at ls x [] out (length (ls ++ x ∷ []) - 1) (omega (arith, length-append ls (x ∷ [])))

module _ (ls : List (List ℕ)) where
  -- after those, one more link was taken, to which something was written
  abbrev HasLink : View → Type 0
  HasLink v = (x : List ℕ) × (v.written.links ≡ ls ++ x ∷ [])

  same_link : (v w : View) → w.written.links ≡ v.written.links → HasLink v → HasLink w
  same_link v w same h = (h.0, same ∙ h.1)

  put_link : (bytes : List ℕ) (v w : View) → w ≡ with_written outs.Link (written_of outs.Link v ++ bytes) v → HasLink v → HasLink w
  put_link bytes v w is h =
      (written_of outs.Link v ++ bytes, ap (λ (u : View). u.written.links) is ∙ (ap (with_last (written_of outs.Link v ++ bytes)) h.1 ∙ last_set (written_of outs.Link v ++ bytes) h.0 ls))

  event_link : (e : Event) (s n : Outside) → Happens e s n → IsOverLink e → HasLink s.view → HasLink n.view
  event_link (opened slot name ok) s n h k l = absurd k
  event_link (took slot bytes) s n h k l = same_link s.view n.view (ap (λ (u : View). u.written.links) h.1) l
  event_link (ended slot) s n h k l = same_link s.view n.view (ap (λ (u : View). u.written.links) h.1) l
  event_link (read_failed slot) s n h k l = same_link s.view n.view (ap (λ (u : View). u.written.links) h.0) l
  event_link (created out name ok) s n h k l = absurd k
  event_link (put out bytes) s n h k l = put_link bytes s.view n.view (link_put out s n bytes h.0 k) l
  event_link (write_failed out) s n h k l = same_link s.view n.view (ap (λ (u : View). u.written.links) h.0) l
  event_link (listened address ok) s n h k l = absurd k
  event_link (connected address ok) s n h k l = absurd k
  event_link (accepted ok) s n h k l = absurd k
  event_link (told moment) s n h k l = absurd k

  keeps_link : (t : List Event) (s n : Outside) → Throughout IsOverLink t → Fits t s n → HasLink s.view → HasLink n.view
  keeps_link [] s n k f l = subst (λ (o : Outside). HasLink o.view) (sym f) l
  keeps_link (e ∷ t) s n k f l = keeps_link t f.0 n k.1 f.2 (event_link e s f.0 f.1 k.0 l)

-- after a conversation
module _ (m k : Outside) (t : List Event) (over : Throughout IsOverLink t) (fits : Fits t m k) where
  pub link_spares : unlinked k.view ≡ unlinked m.view
  link_spares = all_leave unlinked IsOverLink link_spared t m k over fits

  -- the link that was taken last has what was sent
  pub last_link : (ls : List (List ℕ)) (sent : List ℕ) → m.view.written.links ≡ ls ++ [] ∷ [] → written_of outs.Link k.view ≡ written_of outs.Link m.view ++ sent → k.view.written.links ≡ ls ++ sent ∷ []
  last_link ls sent first wrote =
      let more = keeps_link ls t m k over fits ([], first) in
      let none : written_of outs.Link m.view ≡ [] = ap (last_or m.view.written.unlinked) first ∙ last_is m.view.written.unlinked [] ls in
      let now : written_of outs.Link k.view ≡ more.0 = ap (last_or k.view.written.unlinked) more.1 ∙ last_is k.view.written.unlinked more.0 ls in
      let same : more.0 ≡ sent = sym now ∙ (wrote ∙ ap (λ (l : List ℕ). l ++ sent) none) in
      more.1 ∙ ap (λ (x : List ℕ). ls ++ x ∷ []) same

-- a link was taken, and this was sent over it
module _ (address sent : List ℕ) (a m k : Outside) (t : List Event) (taken : m.view ≡ record (link_taken a.view) { address = Some address }) (over : Throughout IsOverLink t) (fits : Fits t m k) (wrote : written_of outs.Link k.view ≡ written_of outs.Link m.view ++ sent) where
  pub link_left : (s : Status) (output line : List ℕ) → Leaves (over_link address sent s output line) a.view k.view
  link_left s output line =
      let same : unlinked k.view ≡ unlinked m.view = link_spares m k t over fits in
      record {
        files = ap (λ (u : View). u.files) same ∙ ap (λ (u : View). u.files) taken;
        moments = ap (λ (u : View). u.moments) same ∙ ap (λ (u : View). u.moments) taken;
        coming = ap (λ (u : View). u.links) same ∙ ap (λ (u : View). u.links) taken;
        state_name = ap (λ (u : View). u.state_name) same ∙ ap (λ (u : View). u.state_name) taken;
        state = ap (λ (u : View). u.written.state) same ∙ ap (λ (u : View). u.written.state) taken;
        links = last_link m k t over fits a.view.written.links sent (ap (λ (u : View). u.written.links) taken) wrote;
        address = ap (λ (u : View). u.address) same ∙ ap (λ (u : View). u.address) taken;
      }

-- ---- State

-- all that writing to State leaves
abbrev unstated : View → View
unstated v = record v { left = none_left; written = record v.written { state = [] } }

abbrev pub IsToState : Event → Type 0
IsToState (opened slot name ok) = ⊥
IsToState (took slot bytes) = ⊥
IsToState (ended slot) = ⊥
IsToState (read_failed slot) = ⊥
IsToState (created out name ok) = ⊥
IsToState (put out bytes) = out ≡ outs.State
IsToState (write_failed out) = Unit {0}
IsToState (listened address ok) = ⊥
IsToState (connected address ok) = ⊥
IsToState (accepted ok) = ⊥
IsToState (told moment) = ⊥

state_put : (out : Out) (s n : Outside) (bytes : List ℕ) → n.view ≡ with_written out (written_of out s.view ++ bytes) s.view → out ≡ outs.State → unstated n.view ≡ unstated s.view
state_put out s n bytes is same = ap unstated (subst (λ (o : Out). n.view ≡ with_written o (written_of o s.view ++ bytes) s.view) same is)

state_spared : (e : Event) (s n : Outside) → Happens e s n → IsToState e → unstated n.view ≡ unstated s.view
state_spared (opened slot name ok) s n h k = absurd k
state_spared (took slot bytes) s n h k = absurd k
state_spared (ended slot) s n h k = absurd k
state_spared (read_failed slot) s n h k = absurd k
state_spared (created out name ok) s n h k = absurd k
state_spared (put out bytes) s n h k = state_put out s n bytes h.0 k
state_spared (write_failed out) s n h k = ap unstated h.0
state_spared (listened address ok) s n h k = absurd k
state_spared (connected address ok) s n h k = absurd k
state_spared (accepted ok) s n h k = absurd k
state_spared (told moment) s n h k = absurd k

-- State was created under the name, and has these bytes
abbrev pub saves_line : List ℕ → List ℕ → List ℕ → Answer
saves_line name bytes line = record (done line) { state = Some (name, bytes) }

module _ (name bytes : List ℕ) (a m k : Outside) (t : List Event) (made : m.view ≡ with_name outs.State name (with_written outs.State [] a.view)) (to : Throughout IsToState t) (fits : Fits t m k) (wrote : written_of outs.State k.view ≡ written_of outs.State m.view ++ bytes) where
  pub state_left : (line : List ℕ) → Leaves (saves_line name bytes line) a.view k.view
  state_left line =
      let same : unstated k.view ≡ unstated m.view = all_leave unstated IsToState state_spared t m k to fits in
      record {
        files = ap (λ (u : View). u.files) same ∙ ap (λ (u : View). u.files) made;
        moments = ap (λ (u : View). u.moments) same ∙ ap (λ (u : View). u.moments) made;
        coming = ap (λ (u : View). u.links) same ∙ ap (λ (u : View). u.links) made;
        state_name = ap (λ (u : View). u.state_name) same ∙ ap (λ (u : View). u.state_name) made;
        state = wrote ∙ ap (λ (u : View). u.written.state ++ bytes) made;
        links = ap (λ (u : View). u.written.links) same ∙ ap (λ (u : View). u.written.links) made ∙ sym (append-nil a.view.written.links);
        address = ap (λ (u : View). u.address) same ∙ ap (λ (u : View). u.address) made;
      }

-- after a session
pub saved_left : (address sent name bytes line : List ℕ) (v u w : View) (s : Status) (output errors : List ℕ) → Leaves (over_link address sent s output errors) v u → Leaves (saves_line name bytes line) u w → Leaves (saves_after address sent name bytes line) v w
saved_left address sent name bytes line v u w s output errors l m = record {
  files = m.files ∙ l.files;
  moments = m.moments ∙ l.moments;
  coming = m.coming ∙ l.coming;
  state_name = m.state_name;
  state = m.state;
  links = m.links ∙ (append-nil u.written.links ∙ l.links);
  address = m.address ∙ l.address;
}
