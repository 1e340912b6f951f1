-- Sessions in turn: what stands after so many, and after one more.
use Rattle.std.proofs.Common.{◌≡◌, ◌⊎◌, inl, inr, ℕ, zero, suc, ◌+◌, ◌<◌, List, [], ◌∷◌, ◌++◌, length, append-nil, append_assoc, drop, Bool, true, false, true≢false, None, Result, refl, sym, ap, ◌∙◌, subst, arith}
use Rattle.std.specs.Prelude.{get_or}
use Rattle.std.proofs.lemmas.List.{drop-drop}
use Rattle.tl_numbers.specs.Bytes.{AreBytes}
use Rattle.tl_base.specs.Outside.{View}
use Rattle.box_server.specs.Servers.{ServerState}
use Rattle.box_server.specs.declared.entry.Entry.{Entry}
use Rattle.wire_profile.specs.Indexes.{ProfileView}
use Rattle.wire_profile.specs.Profiles.{IsProfile}
use Rattle.outside.specs.Answer.{Answer}
use Rattle.outside.specs.Kept.{AddsPrefix, Leaves}
use Rattle.outside.specs.declared.status.Status.{Status}
use Rattle.outside.specs.Events.{Outside}
use Rattle.outside.specs.Fits.{Fits}
use Rattle.outside.specs.Reliable.{IsReliable}
use Rattle.outside.proofs.Fitting.{fits_keeps, reliable_on}
use Rattle.update_sessions.specs.declared.fault.SessionFault.{SessionFault}
use Rattle.session_commands.specs.Keep.{SessionsBy}
use Rattle.session_commands.specs.Linked.{next_link}
use Rattle.session_commands.specs.Serve.{SessionEnd, IsAny, IsWhole, Sessions, Total, end_errors, end_output, end_status, first_fault, no_sessions, total_answer, with_session, end_of}
use Rattle.session_commands.specs.Serve as commands
use Rattle.session_commands.specs.inner.Serving.{GoesOn}
use Rattle.session_commands.proofs.ServeRuns.{at_zero}
use Rattle.session_rooms.proofs.LeftViews.{leaves_then}
use Rattle.serve_rooms.specs.Acts.{Act, events_in}
use Rattle.serve_rooms.specs.ServedBytes.{added_in}
use Rattle.serve_rooms.specs.Telling.{new_tally}
use Rattle.serve_rooms.specs.declared.telling.Tally.{Tally}
use Rattle.serve_rooms.proofs.AnsweredBytes.{added_more}
use Rattle.run_laws.specs.Ended.{ErrorsFailed, LinkFailed}
use Rattle.run_laws.specs.Sessions.{session_answer}
use Rattle.run_laws.proofs.serving.Connected.{Connected, Failed}
use Rattle.run_laws.proofs.serving.Lines.{errors_of, longer, output_of}
use Rattle.run_laws.proofs.serving.LinkCauses.{errors_first, errors_last, link_first, link_last}
use Rattle.run_laws.proofs.serving.ToldLines.{Says}

-- ---- lines on Errors

pub lines_on : (b c : Bool) (x y z l m : List ℕ) → GoesOn true b x y l → GoesOn b c y z m → GoesOn true c x z (l ++ m)
lines_on true true x y z l m h k = k ∙ ap (λ (q : List ℕ). q ++ m) h ∙ append_assoc x l m
lines_on true false x y z l m h (prefix, rest, split, is) =
    (l ++ prefix, rest, append_assoc l prefix rest ∙ ap (λ (q : List ℕ). l ++ q) split, is ∙ ap (λ (q : List ℕ). q ++ prefix) h ∙ append_assoc x l prefix)
lines_on false true x y z l m h k = absurd k
lines_on false false x y z l m h k = subst (λ (q : List ℕ). AddsPrefix x q (l ++ m)) (sym k) (longer x y (l ++ m) l m h refl)

torn_on : (b c : Bool) (P W : Type 0) → (b ≡ false → W) → (b ≡ true → c ≡ false → W) → c ≡ false → W
torn_on true c P W was is not = is refl not
torn_on false c P W was is not = was refl

-- ---- what sessions answer, at whatever address

abbrev pub so_far : ℕ → Total → Answer
so_far n r = record (total_answer [] n r) { address = None }

drop_one : {A : Type 0} (k : ℕ) (l : List A) → drop 1 (drop k l) ≡ drop (suc k) l
drop_one k l = drop-drop 1 k l ∙ ap (λ (n : ℕ). drop n l) (let one : k + 1 ≡ suc k = omega arith in one)

more_leaves : (k number : ℕ) (e : SessionEnd) (sent : List ℕ) (t : ServerState) (new : List Entry) (r : Total) (v u w : View) → Leaves (so_far k r) v u → Leaves (session_answer number e sent) u w → Leaves (so_far (suc k) (with_session k e sent t new r)) v w
more_leaves k number e sent t new r v u w l m = record {
  files = m.files ∙ l.files;
  moments = m.moments ∙ ap (λ (x : List ℕ). drop 1 x) l.moments ∙ drop_one k v.moments;
  coming = m.coming ∙ ap (λ (x : List (List ℕ)). drop 1 x) l.coming ∙ drop_one k v.links;
  state_name = m.state_name ∙ l.state_name;
  state = m.state ∙ l.state;
  links = m.links ∙ ap (λ (x : List (List ℕ)). x ++ sent ∷ []) l.links ∙ append_assoc v.written.links r.sent (sent ∷ []);
  address = m.address ∙ l.address;
}

pub any_of : (p : ProfileView) (s : ServerState) (given : List (List ℕ)) (moments : List ℕ) (k : ℕ) (r : Total) → Sessions IsWhole p s given moments k r → Sessions IsAny p s given moments k r
any_of p s given moments zero r is = is
any_of p s given moments (suc k) r (q, e, out, t, new, h, whole, session, is) = (q, e, out, t, new, any_of p s given moments k q h, tt, session, is)

-- From a view on; R says that the outside that showed it is reliable.
module _ (p : ProfileView) (s : ServerState) (n : ℕ) (R : Type 0) (v : View) where
  -- The link of a session failed, of which there is no room for what any session sends whose link doesn't fail. Those before it are whole.
  pub record Broke (t : List Act) : Type 0 where
    pub failed : LinkFailed (events_in t)
    pub number : ℕ
    pub less : number < n
    pub total : Total
    pub sessions : Sessions IsWhole p s v.links v.moments number total
    pub short : R → IsProfile p → AreBytes (get_or v.links number []) → (out : List ℕ) (x : ServerState) (new : List Entry) (e : SessionEnd) → commands.Session p total.server (get_or v.moments number 0) (get_or v.links number []) out x new e → IsWhole e → v.room < length out

  abbrev pub WholeOr : ℕ → Total → List Act → Type 0
  WholeOr k total t = Sessions IsWhole p s v.links v.moments k total ⊎ Broke t

  pub by_failed : (k : ℕ) (total : Total) (t : List Act) → Sessions IsAny p s v.links v.moments k total → WholeOr k total t → SessionsBy (LinkFailed (events_in t)) p s v.links v.moments k total
  by_failed k total t any (inl whole) = inl whole
  by_failed k total t any (inr broke) = inr (broke.failed, any)

  broke_later : (t first rest : List Act) → t ≡ first ++ rest → Broke first → Broke t
  broke_later t first rest is h = record {
    failed = subst (λ (l : List Act). LinkFailed (events_in l)) (sym is) (link_first first rest h.failed);
    number = h.number;
    less = h.less;
    total = h.total;
    sessions = h.sessions;
    short = h.short;
  }

  pub whole_later : (k : ℕ) (total : Total) (t first rest : List Act) → t ≡ first ++ rest → WholeOr k total first → WholeOr k total t
  whole_later k total t first rest is (inl whole) = inl whole
  whole_later k total t first rest is (inr broke) = inr (broke_later t first rest is broke)

  -- so many sessions came to this
  pub record SoFar (k : ℕ) (server : ServerState) (tally : Tally) (t : List Act) (b : Outside) : Type 0 where
    pub total : Total
    pub sessions : Sessions IsAny p s v.links v.moments k total
    pub whole : WholeOr k total t
    pub server_is : server ≡ total.server
    pub entries : added_in t ≡ total.entries
    pub status : tally.status ≡ total.status
    pub output : output_of b ≡ v.written.output ++ total.output
    pub lines : GoesOn true tally.whole v.written.errors (errors_of b) total.errors
    pub torn : tally.whole ≡ false → ErrorsFailed (events_in t)
    pub leaves : Leaves (so_far k total) v b.view
    pub room : b.view.room ≡ v.room
    pub sound : R → IsReliable b

  pub none_yet : (t : List Act) (b : Outside) → b.view ≡ v → (R → IsReliable b) → added_in t ≡ [] → SoFar 0 s new_tally t b
  none_yet t b view sound none = record {
    total = no_sessions s;
    sessions = refl;
    whole = inl refl;
    server_is = refl;
    entries = none;
    status = refl;
    output = ap (λ (x : View). x.written.output) view ∙ sym (append-nil v.written.output);
    lines = ap (λ (x : View). x.written.errors) view ∙ sym (append-nil v.written.errors);
    torn = λ is. absurd (true≢false is);
    leaves = record {
      files = ap (λ (x : View). x.files) view;
      moments = ap (λ (x : View). x.moments) view;
      coming = ap (λ (x : View). x.links) view;
      state_name = ap (λ (x : View). x.state_name) view;
      state = ap (λ (x : View). x.written.state) view;
      links = ap (λ (x : View). x.written.links) view ∙ sym (append-nil v.written.links);
      address = ap (λ (x : View). x.address) view;
    };
    room = ap (λ (x : View). x.room) view;
    sound = sound;
  }

  -- and one more is over, of which nothing is told yet
  pub record Untold (k : ℕ) (x : ServerState) (tally : Tally) (e : SessionEnd) (t : List Act) (j : Outside) : Type 0 where
    pub before : Total
    pub total : Total
    pub sessions : Sessions IsAny p s v.links v.moments (suc k) total
    pub whole : WholeOr (suc k) total t
    pub server_is : x ≡ total.server
    pub entries : added_in t ≡ total.entries
    pub status : total.status ≡ first_fault tally.status (end_status e)
    pub output_is : total.output ≡ before.output ++ end_output k e
    pub errors_is : total.errors ≡ before.errors ++ end_errors e
    pub output : output_of j ≡ v.written.output ++ before.output
    pub lines : GoesOn true tally.whole v.written.errors (errors_of j) before.errors
    pub torn : tally.whole ≡ false → ErrorsFailed (events_in t)
    pub leaves : Leaves (so_far (suc k) total) v j.view
    pub room : j.view.room ≡ v.room
    pub sound : R → IsReliable j

  module _ (k : ℕ) (less : k < n) (u x : ServerState) (tally : Tally) (end : Result ℕ SessionFault) (t first acts : List Act) (m j : Outside) (splits : t ≡ first ++ acts) (so : SoFar k u tally first m) (c : Connected p u acts x end m j) (f : Fits (events_in acts) m j) where
    abbrev new : List Entry
    new = added_in acts

    abbrev after : Total
    after = with_session k (end_of end) c.sent x new so.total

    moment : get_or m.view.moments 0 0 ≡ get_or v.moments k 0
    moment = ap (λ (l : List ℕ). get_or l 0 0) so.leaves.moments ∙ at_zero v.moments k 0

    link : next_link m.view ≡ get_or v.links k []
    link = ap (λ (l : List (List ℕ)). get_or l 0 []) so.leaves.coming ∙ at_zero v.links k []

    session_as : (out : List ℕ) (y : ServerState) (es : List Entry) (e : SessionEnd) → commands.Session p u (get_or m.view.moments 0 0) (next_link m.view) out y es e → commands.Session p so.total.server (get_or v.moments k 0) (get_or v.links k []) out y es e
    session_as out y es e h =
        subst (λ (z : ServerState). commands.Session p z (get_or v.moments k 0) (get_or v.links k []) out y es e) so.server_is
        (subst (λ (i : ℕ). commands.Session p u i (get_or v.links k []) out y es e) moment (subst (λ (l : List ℕ). commands.Session p u (get_or m.view.moments 0 0) l out y es e) link h))

    session_back : (out : List ℕ) (y : ServerState) (es : List Entry) (e : SessionEnd) → commands.Session p so.total.server (get_or v.moments k 0) (get_or v.links k []) out y es e → commands.Session p u (get_or m.view.moments 0 0) (next_link m.view) out y es e
    session_back out y es e h =
        subst (λ (z : ServerState). commands.Session p z (get_or m.view.moments 0 0) (next_link m.view) out y es e) (sym so.server_is)
        (subst (λ (i : ℕ). commands.Session p so.total.server i (next_link m.view) out y es e) (sym moment) (subst (λ (l : List ℕ). commands.Session p so.total.server (get_or v.moments k 0) l out y es e) (sym link) h))

    there : commands.Session p so.total.server (get_or v.moments k 0) (get_or v.links k []) c.sent x new (end_of end)
    there = session_as c.sent x new (end_of end) c.session

    broke : Sessions IsWhole p s v.links v.moments k so.total → Failed p u acts m → Broke t
    broke whole failed = record {
      failed = subst (λ (l : List Act). LinkFailed (events_in l)) (sym splits) (link_last first acts failed.failed);
      number = k;
      less = less;
      total = so.total;
      sessions = whole;
      short = λ sound good bytes out y es e other is.
          (let few = failed.short (so.sound sound) good (subst AreBytes (sym link) bytes) out y es e (session_back out y es e other) is in
          omega (arith, few, so.room));
    }

    whole_on : WholeOr (suc k) after t
    whole_on = elim so.whole as (λ z. WholeOr (suc k) after t) [
      | inl whole ↦ elim c.whole as (λ z. WholeOr (suc k) after t) [
        | inl ends ↦ inl (so.total, (end_of end), c.sent, x, new, whole, ends, there, refl)
        | inr failed ↦ inr (broke whole failed)
      ]
      | inr earlier ↦ inr (broke_later t first acts splits earlier)
    ]

    pub one_over : Untold k x tally (end_of end) t j
    one_over = record {
      before = so.total;
      total = after;
      sessions = (so.total, (end_of end), c.sent, x, new, so.sessions, tt, there, refl);
      whole = whole_on;
      server_is = refl;
      entries = ap added_in splits ∙ added_more first acts ∙ ap (λ (l : List Entry). l ++ new) so.entries;
      status = ap (λ (z : Status). first_fault z (end_status (end_of end))) (sym so.status);
      output_is = refl;
      errors_is = refl;
      output = c.silent.output ∙ so.output;
      lines = subst (λ (l : List ℕ). GoesOn true tally.whole v.written.errors l so.total.errors) (sym c.silent.errors) so.lines;
      torn = λ is. subst (λ (l : List Act). ErrorsFailed (events_in l)) (sym splits) (errors_first first acts (so.torn is));
      leaves = more_leaves k k (end_of end) c.sent x new so.total v m.view j.view so.leaves (c.leaves k);
      room = (fits_keeps (events_in acts) m j f).room ∙ so.room;
      sound = λ sound. reliable_on m j (fits_keeps (events_in acts) m j f) (so.sound sound);
    }

  -- it is told
  pub one_told : (k : ℕ) (x : ServerState) (tally later : Tally) (e : SessionEnd) (t first acts : List Act) (j b : Outside) → t ≡ first ++ acts → added_in acts ≡ [] → Untold k x tally e first j → Says k e tally later (ErrorsFailed (events_in acts)) j b → Fits (events_in acts) j b
      → SoFar (suc k) x later t b
  one_told k x tally later e t first acts j b splits none so says f =
      let kept = fits_keeps (events_in acts) j b f in
      record {
        total = so.total;
        sessions = so.sessions;
        whole = whole_later (suc k) so.total t first acts splits so.whole;
        server_is = so.server_is;
        entries = ap added_in splits ∙ added_more first acts ∙ ap (λ (l : List Entry). added_in first ++ l) none ∙ append-nil (added_in first) ∙ so.entries;
        status = says.status ∙ sym so.status;
        output = says.output ∙ ap (λ (l : List ℕ). l ++ end_output k e) so.output ∙ append_assoc v.written.output so.before.output (end_output k e) ∙ ap (λ (l : List ℕ). v.written.output ++ l) (sym so.output_is);
        lines = subst (GoesOn true later.whole v.written.errors (errors_of b)) (sym so.errors_is) (lines_on tally.whole later.whole v.written.errors (errors_of j) (errors_of b) so.before.errors (end_errors e) so.lines says.lines);
        torn = λ not. subst (λ (l : List Act). ErrorsFailed (events_in l)) (sym splits) (torn_on tally.whole later.whole ⊥ (ErrorsFailed (events_in (first ++ acts))) (λ was. errors_first first acts (so.torn was)) (λ was is. errors_last first acts (says.torn was is)) not);
        leaves = leaves_then (so_far (suc k) so.total) v j.view b.view so.leaves says.rest;
        room = kept.room ∙ so.room;
        sound = λ sound. reliable_on j b kept (so.sound sound);
      }
