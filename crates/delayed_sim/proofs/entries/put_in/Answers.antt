use Rattle.std.proofs.Common.{ℕ, Option, None, List, length, get_or, Contains, sym, ◌∙◌, subst}
use Rattle.std.proofs.lemmas.List.Edits.{insert_end}
use Rattle.delayed_sim.specs.declared.entries.Entry.{Entry}
use Rattle.delayed_sim.specs.Stored.{triple_of, entry_triples, no_entry, IsBetween, IsPutIn}
use Rattle.delayed_sim.proofs.BuildLemmas.{put_in}
use Rattle.delayed_sim.proofs.entries.put_in.Goals as goal

pub returns-then-is_behind_all : goal.returns-then-is_behind_all
returns-then-is_behind_all c =
    let n : ℕ = c.args.letters in
    let e : Entry = c.args.entry in
    let old = c.args.entries.now.items in
    let gap : IsBetween n old (triple_of n e) (length old) (length old) =
    subst (λ (l : List Entry). IsBetween n l (triple_of n e) (length l) (length l)) c.deref.ensures.value (c.is_behind_all.ensures c.if-is_behind_all.true) in
    subst (λ l. IsPutIn n old l e) (insert_end old e ∙ sym c.in_ok-push.ensures.items) (put_in n old (length old) e c.requires.in_order gap)

pub returns-in-Ok : goal.returns-in-Ok
returns-in-Ok c =
    let n : ℕ = c.args.letters in
    let e : Entry = c.args.entry in
    let old = c.args.entries.now.items in
    let rank = (get_or c.deref-2.result.now c.in-Ok._at no_entry).rank in
    let there : Contains (entry_triples n old) (e.left, c.ahead_of.result.now, e.right, rank) =
    subst (λ (l : List Entry). Contains (entry_triples n l) (e.left, c.ahead_of.result.now, e.right, rank)) c.deref-2.ensures.value c.in-Ok.ensures.found.1 in
    absurd (c.requires.lacks rank (subst (λ (b : List ℕ). Contains (entry_triples n old) (e.left, b, e.right, rank)) c.ahead_of.ensures there))

pub returns-in_ok-insert-in-Err : goal.returns-in_ok-insert-in-Err
returns-in_ok-insert-in-Err c =
    let n : ℕ = c.args.letters in
    let e : Entry = c.args.entry in
    let old = c.args.entries.now.items in
    let at : ℕ = c.in-Err.at in
    let raw : IsBetween n old (e.left, c.ahead_of.result.now, e.right, None) at at =
    subst (λ (l : List Entry). IsBetween n l (e.left, c.ahead_of.result.now, e.right, None) at at) c.deref-2.ensures.value c.in-Err.ensures.gap in
    let gap : IsBetween n old (triple_of n e) at at = subst (λ (b : List ℕ). IsBetween n old (e.left, b, e.right, e.rank) at at) c.ahead_of.ensures (ranked n old e.left c.ahead_of.result.now e.right e.rank at raw) in
    subst (λ l. IsPutIn n old l e) (sym c.in_ok-insert-in-Err.ensures.items) (put_in n old at e c.requires.in_order gap)
  where
    ranked : (n : ℕ) (entries : List Entry) (p : ℕ) (b : List ℕ) (q : ℕ) (o : Option ℕ) (at : ℕ) → IsBetween n entries (p, b, q, None) at at → IsBetween n entries (p, b, q, o) at at
    ranked n entries p b q o at h = record { upto = h.upto; within = h.within; below = h.below; above = h.above }
