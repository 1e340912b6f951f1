-- What a host in memory shows. This project's own.
use Rattle.std.specs.Prelude.{ℕ, [], map, take, drop, None}
use Rattle.tl_base.specs.Outside.{View, Written}
use Rattle.tl_base.specs.MemoryContents.{file_view, link_bytes, link_written, lefts}
use Rattle.tl_base.specs.MemoryNames.{name_of}
use Rattle.tl_base.specs.declared.mem_shown.MemShown.{MemShown}

-- what was written to each out
abbrev pub outs_of : MemShown → Written
outs_of s = record { output = s.output.items; errors = s.errors.items; state = s.state.items; unlinked = s.unlinked.items; links = map link_written (take s.taken s.links.items) }

-- what it shows
abbrev pub view_of : MemShown → View
view_of s = record {
  files = map file_view s.files.items;
  left = lefts s.files.items s.links.items s.readings;
  written = outs_of s;
  state_name = name_of s.state_name;
  links = map link_bytes (drop s.taken s.links.items);
  address = name_of s.address;
  moments = drop s.told s.moments.items;
  room = s.room;
}

-- no file, no link and no moment, and so much room
abbrev pub nothing_shown : ℕ → View
nothing_shown room = record {
  files = [];
  left = record { schema = []; input = []; state = []; link = [] };
  written = record { output = []; errors = []; state = []; unlinked = []; links = [] };
  state_name = None;
  links = [];
  address = None;
  moments = [];
  room = room;
}
