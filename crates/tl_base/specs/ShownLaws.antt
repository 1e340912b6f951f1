-- No reading matter: what a host in memory shows are bytes.
use Rattle.std.specs.Prelude.{ℕ, zero, suc, List, [], ◌∷◌, drop, map, get_or, Option, Some, None}
use Rattle.std.proofs.Common.{arith}
use Rattle.tl_numbers.specs.Bytes.{AreBytes, ListsOfBytes}
use Rattle.tl_base.specs.Contents.{HoldBytes}
use Rattle.tl_base.specs.Outside.{ShowsBytes, left_of}
use Rattle.tl_base.specs.MemoryContents.{file_view, file_bytes, link_bytes, origin_bytes, left_by}
use Rattle.tl_base.specs.MemoryLaws.{rest_bytes}
use Rattle.tl_base.specs.MemoryShown.{view_of}
use Rattle.tl_base.specs.declared.host.Slot.{Slot}
use Rattle.tl_base.specs.declared.host.Slot.TheVariants as slots
use Rattle.tl_base.specs.declared.mem_contents.MemFile.{MemFile}
use Rattle.tl_base.specs.declared.mem_contents.MemLink.{MemLink}
use Rattle.tl_base.specs.declared.mem_contents.Origin.{Origin}
use Rattle.tl_base.specs.declared.mem_contents.Origin.TheVariants.{File, Link}
use Rattle.tl_base.specs.declared.mem_contents.Reading.{Reading}
use Rattle.tl_base.specs.declared.mem_shown.MemShown.{MemShown}

no_bytes : AreBytes []
no_bytes k = omega arith

files_hold : (fs : List MemFile) → HoldBytes (map file_view fs)
files_hold [] = tt
files_hold (f ∷ fs) = (f.fits, files_hold fs)

file_holds : (fs : List MemFile) (i : ℕ) → AreBytes (get_or (map file_bytes fs) i [])
file_holds [] i = no_bytes
file_holds (f ∷ fs) zero = f.fits
file_holds (f ∷ fs) (suc i) = file_holds fs i

link_holds : (ls : List MemLink) (i : ℕ) → AreBytes (get_or (map link_bytes ls) i [])
link_holds [] i = no_bytes
link_holds (l ∷ ls) zero = l.fits
link_holds (l ∷ ls) (suc i) = link_holds ls i

links_hold : (ls : List MemLink) → ListsOfBytes (map link_bytes ls)
links_hold [] = tt
links_hold (l ∷ ls) = (l.fits, links_hold ls)

origin_holds : (fs : List MemFile) (ls : List MemLink) (o : Origin) → AreBytes (origin_bytes fs ls o)
origin_holds fs ls (File index) = file_holds fs index
origin_holds fs ls (Link index) = link_holds ls index

left_holds : (fs : List MemFile) (ls : List MemLink) (r : Option Reading) → AreBytes (left_by fs ls r)
left_holds fs ls None = no_bytes
left_holds fs ls (Some r) = rest_bytes r.at _ (origin_holds fs ls r.origin)

slot_holds : (s : MemShown) (slot : Slot) → AreBytes (left_of slot (view_of s))
slot_holds s slots.Schema = left_holds s.files.items s.links.items s.readings.schema
slot_holds s slots.Input = left_holds s.files.items s.links.items s.readings.input
slot_holds s slots.State = left_holds s.files.items s.links.items s.readings.state
slot_holds s slots.Link = left_holds s.files.items s.links.items s.readings.link

pub shows_bytes : (s : MemShown) → ShowsBytes (view_of s)
shows_bytes s = record { files = files_hold s.files.items; left = slot_holds s; links = links_hold (drop s.taken s.links.items) }
