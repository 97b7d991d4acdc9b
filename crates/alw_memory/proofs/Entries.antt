-- Home lines as entries: what is read of one, and what a change does.
use Rattle.std.proofs.Common.{◌≡◌, ◌≢◌, ℕ, zero, suc, ◌+◌, ◌*◌, ◌/◌, ◌%◌, ◌<◌, ◌≤◌, Bool, List, [], ◌∷◌, length, slice_set, slice_index_or, refl, sym, ap}
use Rattle.std.proofs.Common.{subst, arith}
use Rattle.std.proofs.Math.Nat.{div-add-mod, mul_comm}
use Rattle.alw_num.specs.NodeSets.{Nodes, nodes_of}
use Rattle.dir_soft.specs.Tables.{Table, set_of_line}
use Rattle.alw_model.specs.LimitLess.{Directory}
use Rattle.alw_home.specs.Entries.{directory_of}
use Rattle.dir_hw.specs.declared.entries.HomeEntry.{HomeEntry}
use Rattle.alw_model.specs.Sides.{entry_at}
use Rattle.alw_memory.specs.declared.memories.HomeLine.{HomeLine}
use Rattle.alw_memory.specs.declared.views.HomeView.{HomeView}
use Rattle.alw_memory.specs.Views.{IsViewOf}
use Rattle.alw_memory.specs.Lines.{entries_from}

abbrev pub home_line : HomeEntry → Bool → HomeLine
home_line entry always = record { entry = entry; always = always }

pub entry_read : (line : ℕ) (homes : List HomeLine) (table : Table) (place at : ℕ) (d : HomeLine) → place < length homes → at ≡ line + place
    → entry_at (entries_from line homes table) place ≡ directory_of (slice_index_or homes place d).entry (set_of_line table at)
    (slice_index_or homes place d).always
entry_read line [] table place at d l e = absurd (omega arith)
entry_read line (home ∷ rest) table zero at d l e = let same : at ≡ line = omega arith in rw same refl
entry_read line (home ∷ rest) table (suc place) at d l e = entry_read (line + 1) rest table place at d (omega arith) (omega arith)

-- an entry changes, and the software set of its line
pub entries_set : (line : ℕ) (homes : List HomeLine) (table after : Table) (place at : ℕ) (home : HomeLine) → place < length homes → at ≡ line + place
    → ((l : ℕ) → l ≢ at → set_of_line after l ≡ set_of_line table l)
    → entries_from line (slice_set homes place home) after
    ≡ slice_set (entries_from line homes table) place (directory_of home.entry (set_of_line after at) home.always)
entries_set line [] table after place at home l e others = absurd (omega arith)
entries_set line (first ∷ rest) table after zero at home l e others =
    let same : at ≡ line = omega arith in
    let tail : entries_from (line + 1) rest after ≡ entries_from (line + 1) rest table =
    entries_same (line + 1) rest table after (λ l m. others l (omega arith)) in
    rw (same, tail) refl
  where
    entries_same : (line : ℕ) (homes : List HomeLine) (table after : Table) → ((l : ℕ) → line ≤ l → set_of_line after l ≡ set_of_line table l)
        → entries_from line homes after ≡ entries_from line homes table
    entries_same line [] table after same = refl
    entries_same line (home ∷ rest) table after same = rw (same line (omega arith), entries_same (line + 1) rest table after (λ l m. same l (omega arith))) refl
entries_set line (first ∷ rest) table after (suc place) at home l e others =
    rw (others line (omega arith), entries_set (line + 1) rest table after place at home (omega arith) (omega arith) others) refl

-- the place of a line among those of its home
pub line_is : (line per_node number : ℕ) → line / per_node ≡ number → line ≡ number * per_node + line % per_node
line_is line per_node number e = omega (arith, div-add-mod line per_node, ap (λ n. per_node * n) e, mul_comm per_node number)

-- what shows an entry and its software set shows what they come to
pub shows : (view : HomeView) (d : Directory) (entry : HomeEntry) (software : Nodes) (always : Bool) → d ≡ directory_of entry software always
    → nodes_of view.hw ≡ entry.pointers → nodes_of view.sw ≡ software → view.state ≡ entry.state → view.meta ≡ entry.meta → view.acks ≡ entry.acks
    → view.body ≡ entry.body → IsViewOf view d
shows view d entry software always is hardware soft state meta acks body =
    subst (IsViewOf view) (sym is) (record { state = state; meta = meta; hardware = hardware; software = soft; acks = acks; body = body })
