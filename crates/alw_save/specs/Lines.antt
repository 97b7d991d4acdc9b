-- The lines of a state's text, one definition a kind. Lines end in LF, decimal numbers have no leading zeros, and words have eight hexadecimal digits.
use Rattle.std.specs.Prelude.{ℕ, Bool, cond, Option, List, [], ◌∷◌, ◌++◌, drop, codes}
use Rattle.std.specs.Fmt.{decimal}
use Rattle.std.specs.List.{flat_map}
use Rattle.alw_num.specs.declared.addresses.Line.{Line}
use Rattle.alw_num.specs.NodeSets.{members}
use Rattle.alw_text.specs.Numbers.{hex_word}
use Rattle.sparc_table.specs.declared.registers.Regs.{Regs}
use Rattle.alw_msg.specs.declared.contexts.Status.{Status}
use Rattle.alw_msg.specs.declared.messages.Msg.{Msg}
use Rattle.alw_model.specs.Caches.{Copy, Transaction}
use Rattle.alw_model.specs.LimitLess.{Directory}
use Rattle.alw_report.specs.Names.{mode_text, kind_text, status_text}
use Rattle.alw_report.specs.Reports.{state_text, meta_text, pointers_text}

-- ---- pieces

-- a word behind a blank
abbrev pub spaced_word : ℕ → List ℕ
spaced_word word = codes " " ++ hex_word word

-- the bytes of a line, as its four words
unfoldable pub body_text : Line → List ℕ
body_text body = spaced_word body.a ++ (spaced_word body.b ++ (spaced_word body.c ++ spaced_word body.d))

-- ---- contexts

-- a condition code
abbrev pub flag_digit : Bool → ℕ
flag_digit set = cond set 49 48

-- N, Z, V and C
abbrev pub codes_text : Regs → List ℕ
codes_text regs = flag_digit regs.n ∷ flag_digit regs.z ∷ flag_digit regs.v ∷ flag_digit regs.c ∷ []

-- PC, nPC, Y and the codes; and then the registers but for register 0, which is always 0
unfoldable pub counters_text : Regs → List ℕ
counters_text regs = spaced_word regs.pc ++ (spaced_word regs.npc ++ (spaced_word regs.y ++ (codes " " ++ codes_text regs)))

unfoldable pub registers_text : Regs → List ℕ
registers_text regs = flat_map spaced_word (drop 1 regs.r)

-- a context by its number
unfoldable pub context_line : ℕ → Option ℕ → Status → Regs → List ℕ
context_line context hold status regs =
    codes "context " ++ (decimal context ++ (codes " " ++ (status_text hold status ++ (counters_text regs ++ (registers_text regs ++ codes "\n")))))

-- ---- the rest of a node

-- a node: its clock and its current slot
unfoldable pub node_line : ℕ → ℕ → ℕ → List ℕ
node_line node clock slot = codes "node " ++ (decimal node ++ (codes " clock " ++ (decimal clock ++ (codes " slot " ++ (decimal slot ++ codes "\n")))))

-- a transaction on a line
unfoldable pub pending_line : ℕ × Transaction → List ℕ
pending_line entry =
    codes "pending " ++ (decimal entry.0 ++ (codes " " ++ (mode_text entry.1.mode ++ (codes " " ++ (decimal entry.1.opener ++ codes "\n")))))

-- the copy in a set
unfoldable pub cache_line : ℕ × Copy → List ℕ
cache_line entry =
    codes "cache " ++ (decimal entry.0 ++ (codes " " ++ (decimal entry.1.line
    ++ (codes " " ++ (mode_text entry.1.mode ++ (body_text entry.1.body ++ codes "\n"))))))

-- the entry of a home line: its states; its pointers and its counter; and the bytes
unfoldable pub home_states : ℕ → Directory → List ℕ
home_states line entry = codes "home " ++ (decimal line ++ (codes " " ++ (state_text entry.state ++ (codes " " ++ meta_text entry.meta))))

abbrev pub home_line : ℕ → Directory → List ℕ
home_line line entry = home_states line entry ++ (pointers_text (members entry.hardware) (members entry.software) entry.acks ++ (body_text entry.body ++ codes "\n"))

-- ---- messages

unfoldable pub message_text : Msg → List ℕ
message_text msg =
    kind_text msg.kind ++ (codes " " ++ (decimal msg.line.0 ++ (codes " " ++ (decimal msg.src.0
    ++ (codes " " ++ (decimal msg.stamp ++ (body_text msg.body ++ codes "\n")))))))

-- a packet in a node's queue, and a message on a link
abbrev pub packet_line : Msg → List ℕ
packet_line msg = codes "packet " ++ message_text msg

abbrev pub link_line : ℕ → ℕ → Msg → List ℕ
link_line from to msg = codes "link " ++ (decimal from ++ (codes " " ++ (decimal to ++ (codes " " ++ message_text msg))))
