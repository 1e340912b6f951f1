-- Laws of clients. This project's own.
use Rattle.std.specs.Prelude.{◌≡◌, ℕ, ◌+◌, ◌≤◌, ℤ, List, [], ◌∷◌, length, Ok}
use Rattle.box_events.specs.Events.{EventView}
use Rattle.box_events.specs.declared.requests.Numbered.{Numbered}
use Rattle.box_events.specs.declared.updates.Push.{Push}
use Rattle.box_events.specs.declared.replies.Reply.{Reply}
use Rattle.channel_box.specs.Steps.{watched, may_watch}
use Rattle.box_events.specs.Weaves.{woven_of}
use Rattle.box_client.specs.declared.received.Received.{Received}
use Rattle.box_client.specs.declared.loading.TheConstants.{MAX_NEXT}
use Rattle.box_client.specs.States.{ClientState, new_client}
use Rattle.box_client.specs.Saving.{saved_of}
use Rattle.box_client.specs.Loads.{IsRestartOf}
use Rattle.box_client.specs.Savable.{IsSavable}
use Rattle.box_client.specs.Pushes.{pushed}
use Rattle.box_client.specs.Replies.{Outcome, ignored, refuses, becomes, brings, group_done, replied}
use Rattle.box_client.specs.Asking.{ticks, wakes, restarted}
use Rattle.box_client.specs.Numbers.{ClientNumbers, client_numbers, n_new_client, n_pushed, n_replied, n_ticks, n_wakes, n_client_restarted, n_watched_if}

-- what an answer makes has these numbers; one that nobody asked for leaves them
abbrev pub HasNumbers : ClientState → Outcome → ClientNumbers → Type 0
HasNumbers c ignored n = client_numbers c ≡ n
HasNumbers c (refuses cause) n = Unit {0}
HasNumbers c (becomes d) n = client_numbers d ≡ n

-- a client's numbers after each step follow from its numbers
pub record FollowFromNumbers : Type 0 where
  pub new : client_numbers new_client ≡ n_new_client
  pub push : (c : ClientState) (push : Push) → client_numbers (pushed c push) ≡ n_pushed (client_numbers c) push
  pub reply : (c : ClientState) (n : ℕ) (reply : Reply) → HasNumbers c (replied c n reply) (n_replied (client_numbers c) n reply)
  pub tick : (c : ClientState) → client_numbers (ticks c).client ≡ n_ticks (client_numbers c)
  pub wake : (c : ClientState) → client_numbers (wakes c) ≡ n_wakes (client_numbers c)
  pub restart : (c : ClientState) → client_numbers (restarted c) ≡ n_client_restarted (client_numbers c)
  pub watch : (c : ClientState) (id : ℤ) → client_numbers (record c { channels = watched c.channels id }) ≡ n_watched_if (may_watch c.channels id) (client_numbers c) id

-- requests are numbered one by one from n on
abbrev pub AreNumbered : ℕ → List Numbered → Type 0
AreNumbered n [] = Unit {0}
AreNumbered n (a ∷ asks) = (a.number ≡ n) × AreNumbered (n + 1) asks

-- the next number after an outcome
abbrev pub next_after : ClientState → Outcome → ℕ
next_after c ignored = c.next
next_after c (refuses cause) = c.next
next_after c (becomes d) = d.next

-- No number is given twice: a tick numbers its requests from the next number on, which is past them then, and no other step moves it.
pub record AreGivenOnce : Type 0 where
  pub asks : (c : ClientState) → AreNumbered c.next (ticks c).asks
  pub next : (c : ClientState) → (ticks c).client.next ≡ c.next + length (ticks c).asks
  pub push : (c : ClientState) (push : Push) → (pushed c push).next ≡ c.next
  pub reply : (c : ClientState) (n : ℕ) (reply : Reply) → next_after c (replied c n reply) ≡ c.next
  pub wake : (c : ClientState) → (wakes c).next ≡ c.next
  pub restart : (c : ClientState) → (restarted c).next ≡ c.next

-- what a client saves is loaded as the client after a restart
abbrev pub SavedAreLoaded : Type 0
SavedAreLoaded = (c : ClientState) → IsSavable c → c.next ≤ MAX_NEXT → IsRestartOf c (saved_of c)

-- A difference whose lists can be woven, and whose seq isn't below the client's, is taken.
abbrev pub TakesWhatFits : Type 0
TakesWhatFits = (c : ClientState) (b : Received) (xs ys : List EventView)
    → woven_of c.common.at b.state.pts b.news b.others ≡ Ok xs → woven_of c.secret.at b.state.qts b.secrets [] ≡ Ok ys → c.settings.at ≤ b.state.seq
    → brings c b ≡ becomes (group_done b.last c b xs ys)
