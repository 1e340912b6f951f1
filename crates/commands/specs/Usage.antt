-- The line that says how the program is used. This project's own.
use Rattle.std.specs.Prelude.{ℕ, List, codes}

abbrev pub usage_line : List ℕ
usage_line = codes "usage: tlbox check SCHEMA, decode SCHEMA TYPE INPUT, encode SCHEMA TYPE INPUT, replay SCHEMA JOURNAL CLIENTS, make SCHEMA NUMBER STEPS, serve SCHEMA ADDRESS SESSIONS, post SCHEMA ADDRESS INPUT, client SCHEMA ADDRESS STATE [CHANNEL ..], layers OLD NEW TYPE, calls SCHEMA INPUT, keep SCHEMA ADDRESS SESSIONS FILE\n"
