-- What a cut of a legal journal is, and what is refused.
use Rattle.std.proofs.Common.{◌≡◌, ℕ, ◌<◌, ◌≤◌, nat_le, Bool, true, false, Result, Ok, Err, List, [], ◌∷◌, length, refl, sym, ap, subst, ◌∙◌, arith}
use Rattle.alw_msg.specs.declared.events.Entry.{Entry}
use Rattle.alw_model.specs.Machine.{IsLegal}
use Rattle.law_order.specs.Orders.{kept_by, later_than}
use Rattle.law_order.proofs.Reached.{cut_whole, cut_state, cut_front}
use Rattle.alw_mesh.specs.Histories.{History, MachineFits}
use Rattle.alw_mesh.specs.declared.errors.FitErr.{FitErr}
use Rattle.alw_mesh.specs.declared.errors.FitErr.TheVariants as fits
use Rattle.alw_mesh.proofs.Journals.{journal_fits}
use Rattle.alw_replay.specs.Replays.{Replays, IsReplayed}
use Rattle.alw_replay.proofs.Kept.{first_illegal, all_legal, all_taken, legal_taken}
use Rattle.alw_trace.specs.declared.values.Trace.{Trace}
use Rattle.alw_save.specs.declared.faults.CutErr.{CutErr}
use Rattle.alw_save.specs.declared.faults.CutErr.TheVariants.{DoesNotFit, NotLegal, NoMemory}
use Rattle.alw_save.specs.Cuts.{TraceIsSound, JournalIsCut, IsNoCut, LeavesAll, LeavesCut, no_cut_of}

-- a cut that keeps as many entries as there are keeps them all
few_kept : (at : ℕ) (entries : List Entry) → length (kept_by at entries) ≤ length entries
few_kept at [] = omega arith
few_kept at (entry ∷ rest) = go (nat_le entry.stamp at) refl (few_kept at rest)
  where
    go : (b : Bool) → nat_le entry.stamp at ≡ b → length (kept_by at rest) ≤ length rest → length (kept_by at (entry ∷ rest)) ≤ length (entry ∷ rest)
    go true passes few = rw passes (omega (arith, few))
    go false fails few = rw fails (omega (arith, few))

all_kept : (at : ℕ) (entries : List Entry) → length (kept_by at entries) ≡ length entries → kept_by at entries ≡ entries
all_kept at [] same = refl
all_kept at (entry ∷ rest) same = go (nat_le entry.stamp at) refl same (all_kept at rest)
  where
    go : (b : Bool) → nat_le entry.stamp at ≡ b → length (kept_by at (entry ∷ rest)) ≡ length (entry ∷ rest)
        → (length (kept_by at rest) ≡ length rest → kept_by at rest ≡ rest) → kept_by at (entry ∷ rest) ≡ entry ∷ rest
    go true passes same more =
        let here : length (entry ∷ kept_by at rest) ≡ length (entry ∷ rest) = rw passes at same in
        rw passes (ap (λ (es : List Entry). entry ∷ es) (more (omega (arith, here))))
    go false fails same more =
        let here : length (kept_by at rest) ≡ length (entry ∷ rest) = rw fails at same in
        absurd (omega (arith, here, few_kept at rest))

module _ (trace : Trace) where
  -- its machine didn't start
  pub not_started : (entries : List Entry) (fit : FitErr) → Replays trace.image trace.params entries (Err fit) → IsNoCut trace (no_cut_of fit)
  not_started entries (fits.DoesNotFit number most) is = is
  not_started entries fits.NoMemory is = is

  pub not_fit : (fit : FitErr) → MachineFits trace.image trace.params (Err fit) → IsNoCut trace (no_cut_of fit)
  not_fit (fits.DoesNotFit number most) is = is
  not_fit fits.NoMemory is = absurd is

  module _ {machine : History} {kept : ℕ} (is : Replays trace.image trace.params trace.journal (Ok (record { machine = machine; kept = kept }))) where
    pub not_legal : kept < length trace.journal → IsNoCut trace (NotLegal kept)
    not_legal few = (is.0, first_illegal is.1 few)

    pub all_left : length trace.journal ≤ kept → LeavesAll trace (Ok machine)
    all_left all = (record { fits = is.0; legal = all_legal is.1 all }, is.1.run, all_taken is.1 all)

  -- a machine's journal has fewer than 2^32 entries
  pub few_entries : (machine : History) (entries : List Entry) → LeavesAll trace (Ok machine) → entries ≡ trace.journal → length entries < 4294967296
  few_entries machine entries leaves same =
      omega (arith, journal_fits machine leaves.1, ap (λ (h : History). length h.journal) leaves.2, ap length same)

  module _ (sound_is : TraceIsSound trace) (at : ℕ) where
    pub cut_is : (kept rest : List Entry) → kept ≡ kept_by at trace.journal → rest ≡ later_than at trace.journal → JournalIsCut trace at kept rest
    cut_is kept rest one other = rw (one, other) (record {
      kept_are = refl;
      rest_are = refl;
      legal = cut_front trace.image trace.params trace.journal sound_is.legal at;
      whole = cut_whole trace.image trace.params trace.journal sound_is.legal at;
      same = cut_state trace.image trace.params trace.journal sound_is.legal at;
    })

    -- the entries that it keeps are taken again
    pub cut_taken : (entries : List Entry) (machine : History) (kept : ℕ) → entries ≡ kept_by at trace.journal
        → IsReplayed trace.image trace.params entries machine kept → LeavesCut trace at (Ok machine)
    cut_taken entries machine kept same is =
        let legal : IsLegal trace.image trace.params entries =
        subst (λ (j : List Entry). IsLegal trace.image trace.params j) (sym same) (cut_front trace.image trace.params trace.journal sound_is.legal at) in
        (sound_is, is.run, legal_taken is legal ∙ ap (λ (j : List Entry). record { image = trace.image; parameters = trace.params; journal = j; joined = 0 }) same)

  -- where a cut keeps all entries, the machine after all is the one that it leaves
  pub cut_none : (at : ℕ) (result : Result History CutErr) → LeavesAll trace result → length (kept_by at trace.journal) ≡ length trace.journal
      → LeavesCut trace at result
  cut_none at (Err fault) refused same = refused
  cut_none at (Ok machine) leaves same = (
    leaves.0,
    leaves.1,
    leaves.2
        ∙ ap (λ (j : List Entry). record { image = trace.image; parameters = trace.params; journal = j; joined = 0 }) (sym (all_kept at trace.journal same)),
  )
