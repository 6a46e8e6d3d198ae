use Prim.Native.Nat.{◌+◌, ◌-◌}
use mathlib.Core.Path.{◌≡◌, sym, ap, ◌∙◌}
use mathlib.Core.List.{◌++◌, map, append_assoc, append-nil, flatten}
use lib.ListN.{get_or, take, drop, length, length-append}
use Rattle.rast.specs.ToString.{Path-to_string}
use Rattle.buffer.proofs.Laws.{wrote_then, wrote_as, room_after}
use Rattle.encoding.specs.Tables.{name_bytes}
use Rattle.encoding.specs.Types.{root_of}
use Rattle.text_leaf.specs.Texts.{member_text}
use Rattle.text_leaf.proofs.Paths.{members_text, members-from, part_at, part-done, path-text}
use native.Mathlib.Omega.{arith}
use Rattle.text_leaf.proofs.put_path.Goals as goal

pub put_root-p-requires : goal.put_root-p-requires
put_root-p-requires c =
    let s = c in
    let a = s.args in
    let e = path-text a.words.now (name_bytes a.pairs.now a.text.now) a.path in
    omega (arith, s.requires.2, simp length-append at (ap length e))

pub put_member-p-requires : goal.put_member-p-requires
put_member-p-requires c =
    let s = c in
    let a = s.args in
    let l = c.loop-name in
    let i = l.invariant in
    let name = name_bytes a.pairs.now a.text.now in
    let at = a.path.start + l.name-index in
    let t = part_at a.words.now a.path.start (a.path.start + a.path.count) l.name-index c.loop-name-test.true in
    let e = members-from name a.words.now at (a.path.start + a.path.count) t.0 s.requires.0.inside in
    let root = c.put_root-p.ensures in
    let whole = path-text a.words.now name a.path ∙ ap (λ x. Path-to_string (root_of a.path.root) ++ x) (i.splits ∙ ap (λ x. i.front ++ x) e) ∙ sym (append_assoc (Path-to_string (root_of a.path.root)) i.front _) in
    rw t.1 (
      c.fixed_names.ensures,
      s.requires.0.below at (omega arith) t.0,
      s.requires.1,
      room_after (member_text (name (get_or a.words.now at 0))) (members_text (map name (take (a.path.start + a.path.count - (at + 1)) (drop (at + 1) a.words.now)))) s.requires.2 (wrote_then root i.wrote) whole,
    )

pub loop-name-preserved : goal.loop-name-preserved
loop-name-preserved c =
    let s = c in
    let a = s.args in
    let l = c.loop-name in
    let i = l.invariant in
    let name = name_bytes a.pairs.now a.text.now in
    let at = a.path.start + l.name-index in
    let t = part_at a.words.now a.path.start (a.path.start + a.path.count) l.name-index c.loop-name-test.true in
    let e = members-from name a.words.now at (a.path.start + a.path.count) t.0 s.requires.0.inside in
    let next : a.path.start + (l.name-index + 1) ≡ at + 1 = omega arith in
    rw next (record {
      front = i.front ++ member_text (name (get_or a.words.now at 0));
      wrote = wrote_then i.wrote (rw t.1 at c.put_member-p.ensures);
      splits = i.splits ∙ ap (λ x. i.front ++ x) e ∙ sym (append_assoc i.front _ _);
      inside = (omega arith, omega (arith, t.0));
    })

pub returns : goal.returns
unfolding flatten
returns c =
    let a = c.args in
    let l = c.loop-name in
    let name = name_bytes a.pairs.now a.text.now in
    let z : a.path.start + a.path.count - (a.path.start + l.name-index) ≡ 0 = omega (arith, part-done a.words.now a.path.start (a.path.start + a.path.count) l.name-index (omega arith) c.requires.0.inside c.loop-name-test.false) in
    let e = rw (z, append-nil l.invariant.front) at l.invariant.splits in
    wrote_as (sym (path-text a.words.now name a.path ∙ ap (λ x. Path-to_string (root_of a.path.root) ++ x) e)) (wrote_then c.put_root-p.ensures l.invariant.wrote)
