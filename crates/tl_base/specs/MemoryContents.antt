-- Files and links in memory, and where each slot stands in them. This project's own.
use Rattle.std.specs.Prelude.{ℕ, suc, ◌+◌, ◌≤◌, List, [], ◌∷◌, drop, map, get_or, Option, Some, None, if◌then◌else◌, vec_capacity}
use Rattle.std.specs.Str.{bytes_eq}
use Rattle.tl_base.specs.Outside.{Left}
use Rattle.tl_base.specs.declared.host.Slot.{Slot}
use Rattle.tl_base.specs.declared.host.Slot.TheVariants as slots
use Rattle.tl_base.specs.declared.mem_contents.MemFile.{MemFile}
use Rattle.tl_base.specs.declared.mem_contents.MemLink.{MemLink}
use Rattle.tl_base.specs.declared.mem_contents.Origin.{Origin}
use Rattle.tl_base.specs.declared.mem_contents.Origin.TheVariants.{File, Link}
use Rattle.tl_base.specs.declared.mem_contents.Reading.{Reading}
use Rattle.tl_base.specs.declared.mem_contents.Readings.{Readings}

-- the name and the contents of a file
abbrev pub file_view : MemFile → List ℕ × List ℕ
file_view f = (f.name, f.bytes)

-- the contents of a file
abbrev pub file_bytes : MemFile → List ℕ
file_bytes f = f.bytes

-- what a link gives
abbrev pub link_bytes : MemLink → List ℕ
link_bytes l = l.bytes

-- what was written to a link
abbrev pub link_written : MemLink → List ℕ
link_written l = l.written.items

-- there is memory for so many bytes to be written to the link
abbrev pub Reserves : ℕ → MemLink → Type 0
Reserves room l = room ≤ vec_capacity l.written

-- the first file with the name, counted from i
abbrev pub index_from : ℕ → List MemFile → List ℕ → Option ℕ
index_from i [] name = None
index_from i (f ∷ fs) name = if bytes_eq f.name name then Some i else index_from (suc i) fs name

-- the bytes of a file or of a link; none where it isn't there
abbrev pub origin_bytes : List MemFile → List MemLink → Origin → List ℕ
origin_bytes files links (File index) = get_or (map file_bytes files) index []
origin_bytes files links (Link index) = get_or (map link_bytes links) index []

-- what a slot has left
abbrev pub left_by : List MemFile → List MemLink → Option Reading → List ℕ
left_by files links None = []
left_by files links (Some r) = drop r.at (origin_bytes files links r.origin)

-- what each slot has left
abbrev pub lefts : List MemFile → List MemLink → Readings → Left
lefts files links rs = record { schema = left_by files links rs.schema; input = left_by files links rs.input; state = left_by files links rs.state; link = left_by files links rs.link }

-- no slot is open
abbrev pub no_readings : Readings
no_readings = record { schema = None; input = None; state = None; link = None }

-- what this slot reads
abbrev pub reading_of : Slot → Readings → Option Reading
reading_of slots.Schema rs = rs.schema
reading_of slots.Input rs = rs.input
reading_of slots.State rs = rs.state
reading_of slots.Link rs = rs.link

-- the slots, where this one reads r
abbrev pub with_reading : Slot → Reading → Readings → Readings
with_reading slots.Schema r rs = record rs { schema = Some r }
with_reading slots.Input r rs = record rs { input = Some r }
with_reading slots.State r rs = record rs { state = Some r }
with_reading slots.Link r rs = record rs { link = Some r }

-- how many files, and how many links, there must be for it to be read
abbrev pub origin_files : Origin → ℕ
origin_files (File index) = index + 1
origin_files (Link index) = 0

-- likewise of links
abbrev pub origin_links : Origin → ℕ
origin_links (File index) = 0
origin_links (Link index) = index + 1

-- how many files there must be for a slot to be read
abbrev pub files_read : Option Reading → ℕ
files_read None = 0
files_read (Some r) = origin_files r.origin

-- likewise of links
abbrev pub links_read : Option Reading → ℕ
links_read None = 0
links_read (Some r) = origin_links r.origin

-- of so many files and links, a slot reads one that is there
abbrev pub IsOpenIn : ℕ → ℕ → Option Reading → Type 0
IsOpenIn files links reading = (files_read reading ≤ files) × (links_read reading ≤ links)

-- each slot does
pub record AreOpenIn (files links : ℕ) (rs : Readings) : Type 0 where
  pub schema : IsOpenIn files links rs.schema
  pub input : IsOpenIn files links rs.input
  pub state : IsOpenIn files links rs.state
  pub link : IsOpenIn files links rs.link
