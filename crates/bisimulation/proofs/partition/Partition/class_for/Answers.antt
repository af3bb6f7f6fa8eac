use Rattle.std.proofs.Common.{◌≡◌, ◌+◌, ℕ, List, ◌∷◌, ◌++◌, [], length, refl, sym, ap, ◌∙◌, subst, arith, length-append, inl, inr, Contains}
use Rattle.bisimulation.specs.Signatures.{packed}
use Rattle.bisimulation.proofs.PutLemmas.{number_stands, old_key, new_key}
use Rattle.bisimulation.proofs.partition.Partition.class_for.Goals as goal

pub returns-then-not-is_new-clause-class : goal.returns-then-not-is_new-clause-class
returns-then-not-is_new-clause-class c =
    let old : List ℕ = c.args.parts.now.keys in
    let new : List ℕ = c.insert_full.new.self.keys in
    let e = c.in_ok-number.ensures in
    let same : new ≡ old = old_key old new c.packed.result c.in_ok-number.is_new e.added c.if-not-is_new.true e.keys in
    let size : length new ≡ length old = ap length same in
    record {
      part = c.in_ok-number.number;
      within = e.within;
      is = number_stands new c.packed.result c.in_ok-number.number e.stored ∙ c.packed.ensures;
      place = omega (arith, c.in_ok-made.ensures.is, c.len.ensures, c.len-then-not-is_new.ensures.len, c.requires, size);
      added = inl (same, refl);
    }

pub returns-clause-class : goal.returns-clause-class
returns-clause-class c =
    let old : List ℕ = c.args.parts.now.keys in
    let new : List ℕ = c.insert_full.new.self.keys in
    let part : ℕ = packed c.args.class c.args.sign in
    let e = c.in_ok-number.ensures in
    let a = c.in_ok-add_class.ensures in
    let is : c.packed.result ≡ part = c.packed.ensures in
    let made = new_key old new c.packed.result c.in_ok-number.is_new e.added c.if-not-is_new.false e.keys in
    let size : length new ≡ length old + 1 = ap length made.0 ∙ length-append old (c.packed.result ∷ []) in
    let more : length c.add_class.new.self.kept.items ≡ length c.args.self.now.kept.items + 1 = ap length a.kept ∙ length-append c.args.self.now.kept.items (c.args.sign ∷ []) in
    record {
      part = c.in_ok-number.number;
      within = e.within;
      is = number_stands new c.packed.result c.in_ok-number.number e.stored ∙ is;
      place = omega (arith, c.in_ok-made-2.ensures.is, c.len-2.ensures, c.len-3.ensures.len, c.requires, size, more);
      added = inr (record {
        parts = made.0 ∙ ap (λ x. old ++ x ∷ []) is;
        absent = λ h. made.1 (subst (Contains old) (sym is) h);
        of = a.of;
        signs = a.signs;
        kept = a.kept;
        dues = a.dues;
        members = a.members;
        lists = a.lists;
      });
    }
