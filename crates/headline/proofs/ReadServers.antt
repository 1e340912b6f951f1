-- A server to which each post came as bytes: each of its parts has a spelling, of bytes.
use Rattle.std.proofs.Common.{◌≡◌, ℕ, zero, suc, ℤ, List, [], ◌∷◌, Option, Some, None, refl}
use Rattle.std.specs.FinMap as map
use Rattle.std.specs.List.{All}
use Rattle.box_events.specs.declared.positions.Receipt.{Receipt}
use Rattle.box_events.specs.declared.requests.Post.{Post}
use Rattle.box_server.specs.Refusing.{post_cause}
use Rattle.box_server.specs.Sound.{IsSound}
use Rattle.box_server.specs.declared.fault.PostFault.{PostFault}
use Rattle.box_server.proofs.NewServers.{sound_new}
use Rattle.box_server.proofs.Soundness.{dated_sound, posted_sound}
use Rattle.box_world.specs.Streams.{Doing, Past, dates, done, done_all, first_past, past_of, posted_by, posts}
use Rattle.wire_values.specs.Carried.{FitsPost}
use Rattle.box_world.specs.Spelled.{FitsServer}
use Rattle.box_world.proofs.FittingServers.{posted_fits, servers_keep}
use Rattle.headline.specs.Histories.{AreDated}
use Rattle.headline.specs.ReadHistories.{HasBytes, WereRead}
use Rattle.headline.proofs.HeldTexts.{ServerHolds, dated_holds, new_holds, posted_holds}

pub record IsReadServer (p : Past) : Type 0 where
  pub sound : IsSound p.server
  pub fits : FitsServer p.server
  pub holds : ServerHolds p.server

read_posted : (p : Past) (random_id : ℤ) (ps : List Post) (r : Option Receipt) (cause : Option PostFault) → post_cause p.server ps ≡ cause → All FitsPost ps → All HasBytes ps → IsReadServer p → IsReadServer (posted_by p random_id ps r cause)
read_posted p random_id ps (Some r) cause e fit are k = k
read_posted p random_id ps None (Some cause) e fit are k = k
read_posted p random_id ps None None e fit are k = record { sound = posted_sound p.server random_id ps k.sound e; fits = posted_fits p.server random_id ps k.fits k.sound fit e; holds = posted_holds p.server random_id ps are k.holds }

read_all : (p : Past) (h : List Doing) (m : ℕ) → AreDated h → WereRead h → IsReadServer p → IsReadServer (done_all p h m)
read_all p h zero d r k = k
read_all p [] (suc m) d r k = k
read_all p (posts random_id ps ∷ h) (suc m) d r k = read_all (done p (posts random_id ps)) h m d r.2 (read_posted p random_id ps (map.get p.server.receipts random_id) (post_cause p.server ps) refl r.0 r.1 k)
read_all p (dates date ∷ h) (suc m) d r k = read_all (done p (dates date)) h m d.1 r (record { sound = dated_sound p.server date k.sound d.0; fits = servers_keep.date p.server date k.fits; holds = dated_holds p.server date k.holds })

pub read_servers : (h : List Doing) (m : ℕ) → AreDated h → WereRead h → IsReadServer (past_of h m)
read_servers h m d r = read_all first_past h m d r (record { sound = sound_new; fits = servers_keep.new; holds = new_holds })
