-- The lines of an input, and those of them that are answered.
use Rattle.std.specs.Prelude.{ℕ, Bool, ◌&&◌, List, length, map, nat_le, if◌then◌else◌, false, not, filter}
use Rattle.std.specs.{List.list_all, Str.Lines.lines}
use Rattle.service.specs.Words.{is_space}

-- one line: its text, or why it has none
pub data Line : Type 0 where
  text : List ℕ → Line
  too_long : Line
  not_ascii : Line

-- a space or a visible character
abbrev pub is_printable : ℕ → Bool
is_printable b = nat_le 32 b && nat_le b 126

-- what the bytes of a line, without its end, are: too long comes first
abbrev pub line_of : List ℕ → Line
line_of bytes = if nat_le (length bytes) 4096 then (if list_all is_printable bytes then text bytes else not_ascii) else too_long

-- the lines of an input: each ends at a newline, perhaps with a carriage return before it; what follows the last, if anything, is one too
abbrev pub lines_of : List ℕ → List Line
lines_of input = map line_of (lines input)

-- a line of nothing but spaces
abbrev pub is_blank : Line → Bool
is_blank (text t) = list_all is_space t
is_blank _ = false

-- the lines that are not blank
abbrev pub commands_of : List ℕ → List Line
commands_of input = filter (λ line. not (is_blank line)) (lines_of input)
