-- Each promise of the station's interface leaves, for every input, one answer and one content of lent memory: any two results that meet it,
-- as the check reads it, are equal.
-- Assumes nothing.
use mathlib.Core.Path.{sym, ◌∙◌}
use Rattle.words.proofs.Results.{OneResult, OneContent, OneLent, one_answer, one-content}
use Rattle.rumchivoat.proofs.rumchivoat_interface.Reads as interface
use Rattle.rumchivoat.specs.contracts.rumchivoat_interface as interface-call
use Rattle.rumchivoat.proofs.rumchivoat_pack_tile.Reads as pack-tile
use Rattle.rumchivoat.specs.contracts.rumchivoat_pack_tile as pack-tile-call
use Rattle.rumchivoat.proofs.rumchivoat_unpack_tile.Reads as unpack-tile
use Rattle.rumchivoat.specs.contracts.rumchivoat_unpack_tile as unpack-tile-call
use Rattle.rumchivoat.proofs.rumchivoat_flip_tile.Reads as flip-tile
use Rattle.rumchivoat.specs.contracts.rumchivoat_flip_tile as flip-tile-call
use Rattle.rumchivoat.proofs.rumchivoat_pack_colors.Reads as pack-colors
use Rattle.rumchivoat.specs.contracts.rumchivoat_pack_colors as pack-colors-call
use Rattle.rumchivoat.proofs.rumchivoat_unpack_colors.Reads as unpack-colors
use Rattle.rumchivoat.specs.contracts.rumchivoat_unpack_colors as unpack-colors-call
use Rattle.rumchivoat.proofs.rumchivoat_reduce_channel.Reads as reduce-channel
use Rattle.rumchivoat.specs.contracts.rumchivoat_reduce_channel as reduce-channel-call
use Rattle.rumchivoat.proofs.rumchivoat_scale_up.Reads as scale-up
use Rattle.rumchivoat.specs.contracts.rumchivoat_scale_up as scale-up-call
use Rattle.rumchivoat.proofs.rumchivoat_pack_entry.Reads as pack-entry
use Rattle.rumchivoat.specs.contracts.rumchivoat_pack_entry as pack-entry-call
use Rattle.rumchivoat.proofs.rumchivoat_unpack_entry.Reads as unpack-entry
use Rattle.rumchivoat.specs.contracts.rumchivoat_unpack_entry as unpack-entry-call
use Rattle.rumchivoat.proofs.rumchivoat_tile_index.Reads as tile-index
use Rattle.rumchivoat.specs.contracts.rumchivoat_tile_index as tile-index-call
use Rattle.rumchivoat.proofs.rumchivoat_attribute.Reads as attribute
use Rattle.rumchivoat.specs.contracts.rumchivoat_attribute as attribute-call
use Rattle.rumchivoat.proofs.rumchivoat_set_new.Reads as set_new
use Rattle.rumchivoat.specs.contracts.rumchivoat_set_new as set-new-call
use Rattle.rumchivoat.proofs.rumchivoat_set_reset.Reads as set-reset
use Rattle.rumchivoat.specs.contracts.rumchivoat_set_reset as set-reset-call
use Rattle.rumchivoat.proofs.rumchivoat_set_look_up.Reads as set-look-up
use Rattle.rumchivoat.specs.contracts.rumchivoat_set_look_up as set-look-up-call
use Rattle.rumchivoat.proofs.rumchivoat_set_add.Reads as set-add
use Rattle.rumchivoat.specs.contracts.rumchivoat_set_add as set-add-call
use Rattle.rumchivoat.proofs.rumchivoat_set_write.Reads as set-write
use Rattle.rumchivoat.specs.contracts.rumchivoat_set_write as set-write-call
use Rattle.rumchivoat.proofs.rumchivoat_set_read.Reads as set-read
use Rattle.rumchivoat.specs.contracts.rumchivoat_set_read as set-read-call
use Rattle.rumchivoat.proofs.rumchivoat_native_number.Reads as native-number
use Rattle.rumchivoat.specs.contracts.rumchivoat_native_number as native-number-call
use Rattle.rumchivoat.proofs.rumchivoat_logical_number.Reads as logical-number
use Rattle.rumchivoat.specs.contracts.rumchivoat_logical_number as logical-number-call
use Rattle.rumchivoat.proofs.rumchivoat_title_look_up.Reads as title-look-up
use Rattle.rumchivoat.specs.contracts.rumchivoat_title_look_up as title-look-up-call
use Rattle.rumchivoat.proofs.rumchivoat_title_add.Reads as title-add
use Rattle.rumchivoat.specs.contracts.rumchivoat_title_add as title-add-call
use Rattle.rumchivoat.proofs.rumchivoat_convert.Reads as convert
use Rattle.rumchivoat.specs.contracts.rumchivoat_convert as convert-call
use Rattle.rumchivoat.proofs.rumchivoat_redraw.Reads as redraw
use Rattle.rumchivoat.specs.contracts.rumchivoat_redraw as redraw-call
use Rattle.rumchivoat.proofs.rumchivoat_strip_start.Reads as strip-start
use Rattle.rumchivoat.specs.contracts.rumchivoat_strip_start as strip-start-call
use Rattle.promises.proofs.StripTake as strip-take
use Rattle.rumchivoat.specs.contracts.rumchivoat_strip_take as strip-take-call
use Rattle.rumchivoat.proofs.rumchivoat_strip_end.Reads as strip-end
use Rattle.rumchivoat.specs.contracts.rumchivoat_strip_end as strip-end-call
use Rattle.rumchivoat.proofs.rumchivoat_mode7_make.Reads as mode7-make
use Rattle.rumchivoat.specs.contracts.rumchivoat_mode7_make as mode7-make-call
use Rattle.rumchivoat.proofs.rumchivoat_mode7_split.Reads as mode7-split
use Rattle.rumchivoat.specs.contracts.rumchivoat_mode7_split as mode7-split-call
use Rattle.rumchivoat.proofs.rumchivoat_run.Reads as run
use Rattle.rumchivoat.specs.contracts.rumchivoat_run as run_call

pub interface-result : OneResult interface-call.ended interface.Post
interface-result κs a x y s t p q = p ∙ sym q

pub pack-tile-result : OneResult pack-tile-call.ended pack-tile.Post
pack-tile-result κs a x y s t p q = one_answer p q

pub pack-tile-content : OneContent pack-tile-call.ended pack-tile.Post (λ κs s. s.1.1.1.1.1.0.now)
pack-tile-content κs a x y s t p q = one-content p q

pub unpack-tile-result : OneResult unpack-tile-call.ended unpack-tile.Post
unpack-tile-result κs a x y s t p q = one_answer p q

pub unpack-tile-content : OneContent unpack-tile-call.ended unpack-tile.Post (λ κs s. s.1.1.1.1.1.0.now)
unpack-tile-content κs a x y s t p q = one-content p q

pub flip-tile-result : OneResult flip-tile-call.ended flip-tile.Post
flip-tile-result κs a x y s t p q = one_answer p q

pub flip-tile-content : OneContent flip-tile-call.ended flip-tile.Post (λ κs s. s.1.1.1.1.1.0.now)
flip-tile-content κs a x y s t p q = one-content p q

pub pack-colors-result : OneResult pack-colors-call.ended pack-colors.Post
pack-colors-result κs a x y s t p q = one_answer p q

pub pack-colors-content : OneContent pack-colors-call.ended pack-colors.Post (λ κs s. s.1.1.0.now)
pack-colors-content κs a x y s t p q = one-content p q

pub unpack-colors-result : OneResult unpack-colors-call.ended unpack-colors.Post
unpack-colors-result κs a x y s t p q = one_answer p q

pub unpack-colors-content : OneContent unpack-colors-call.ended unpack-colors.Post (λ κs s. s.1.1.0.now)
unpack-colors-content κs a x y s t p q = one-content p q

pub reduce-channel-result : OneResult reduce-channel-call.ended reduce-channel.Post
reduce-channel-result κs a x y s t p q = p ∙ sym q

pub scale-up-result : OneResult scale-up-call.ended scale-up.Post
scale-up-result κs a x y s t p q = p ∙ sym q

pub pack-entry-result : OneResult pack-entry-call.ended pack-entry.Post
pack-entry-result κs a x y s t p q = one_answer p q

pub pack-entry-content : OneContent pack-entry-call.ended pack-entry.Post (λ κs s. s.1.1.1.1.1.1.0.now)
pack-entry-content κs a x y s t p q = one-content p q

pub unpack-entry-result : OneResult unpack-entry-call.ended unpack-entry.Post
unpack-entry-result κs a x y s t p q = p ∙ sym q

pub tile-index-result : OneResult tile-index-call.ended tile-index.Post
tile-index-result κs a x y s t p q = one_answer p q

pub tile-index-content : OneContent tile-index-call.ended tile-index.Post (λ κs s. s.1.1.1.1.1.1.0.now)
tile-index-content κs a x y s t p q = one-content p q

pub attribute-result : OneResult attribute-call.ended attribute.Post
attribute-result κs a x y s t p q = p ∙ sym q

pub set-new-result : OneResult set-new-call.ended set_new.Post
set-new-result κs a x y s t p q = p ∙ sym q

pub set-reset-result : OneResult set-reset-call.ended set-reset.Post
set-reset-result κs a x y s t p q = p ∙ sym q

pub set-look-up-result : OneResult set-look-up-call.ended set-look-up.Post
set-look-up-result κs a x y s t p q = p ∙ sym q

pub set-add-result : OneResult set-add-call.ended set-add.Post
set-add-result κs a x y s t p q = p.answer ∙ sym q.answer

pub set-add-content : OneContent set-add-call.ended set-add.Post (λ κs s. s.1.0.now)
set-add-content κs a x y s t p q = p.lent ∙ sym q.lent

pub set-write-result : OneResult set-write-call.ended set-write.Post
set-write-result κs a x y s t p q = one_answer p q

pub set-write-content : OneContent set-write-call.ended set-write.Post (λ κs s. s.1.1.0.now)
set-write-content κs a x y s t p q = one-content p q

pub set-read-result : OneResult set-read-call.ended set-read.Post
set-read-result κs a x y s t p q = p.answer ∙ sym q.answer

pub set-read-content : OneContent set-read-call.ended set-read.Post (λ κs s. s.1.1.1.1.1.1.0.now)
set-read-content κs a x y s t p q = p.lent ∙ sym q.lent

pub native-number-result : OneResult native-number-call.ended native-number.Post
native-number-result κs a x y s t p q = p ∙ sym q

pub logical-number-result : OneResult logical-number-call.ended logical-number.Post
logical-number-result κs a x y s t p q = p ∙ sym q

pub title-look-up-result : OneResult title-look-up-call.ended title-look-up.Post
title-look-up-result κs a x y s t p q = p ∙ sym q

pub title-add-result : OneResult title-add-call.ended title-add.Post
title-add-result κs a x y s t p q = p.answer ∙ sym q.answer

pub title-add-content : OneContent title-add-call.ended title-add.Post (λ κs s. s.1.1.1.0.now)
title-add-content κs a x y s t p q = p.lent ∙ sym q.lent

pub convert-result : OneResult convert-call.ended convert.Post
convert-result κs a x y s t p q = p.answer ∙ sym q.answer

pub convert-tiles : OneContent convert-call.ended convert.Post (λ κs s. s.1.1.1.1.1.1.1.1.1.0.now)
convert-tiles κs a x y s t p q = p.lent ∙ sym q.lent

pub convert-map : OneContent convert-call.ended convert.Post (λ κs s. s.1.1.1.1.1.1.1.1.1.1.0.now)
convert-map κs a x y s t p q = p.also_lent ∙ sym q.also_lent

pub redraw-result : OneResult redraw-call.ended redraw.Post
redraw-result κs a x y s t p q = one_answer p q

pub redraw-content : OneContent redraw-call.ended redraw.Post (λ κs s. s.1.1.1.1.1.1.0.now)
redraw-content κs a x y s t p q = one-content p q

pub strip-start-result : OneResult strip-start-call.ended strip-start.Post
strip-start-result κs a x y s t p q = p ∙ sym q

pub strip-take-result : OneResult strip-take-call.ended strip-take.Post
strip-take-result κs a x y s t p q = p.converts.answer ∙ sym q.converts.answer

pub strip-take-record : OneLent strip-take-call.ended strip-take.Post (λ κs s. s.0.now)
strip-take-record κs a x y s t p q = p.run ∙ sym q.run

pub strip-take-tiles : OneContent strip-take-call.ended strip-take.Post (λ κs s. s.1.1.0.now)
strip-take-tiles κs a x y s t p q = p.converts.lent ∙ sym q.converts.lent

pub strip-take-map : OneContent strip-take-call.ended strip-take.Post (λ κs s. s.1.1.1.0.now)
strip-take-map κs a x y s t p q = p.converts.also_lent ∙ sym q.converts.also_lent

pub strip-end-result : OneResult strip-end-call.ended strip-end.Post
strip-end-result κs a x y s t p q = p ∙ sym q

pub mode7-make-result : OneResult mode7-make-call.ended mode7-make.Post
mode7-make-result κs a x y s t p q = one_answer p q

pub mode7-make-content : OneContent mode7-make-call.ended mode7-make.Post (λ κs s. s.1.1.0.now)
mode7-make-content κs a x y s t p q = one-content p q

pub mode7-split-result : OneResult mode7-split-call.ended mode7-split.Post
mode7-split-result κs a x y s t p q = one_answer p.of_tiles q.of_tiles

pub mode7-split-tiles : OneContent mode7-split-call.ended mode7-split.Post (λ κs s. s.1.0.now)
mode7-split-tiles κs a x y s t p q = one-content p.of_tiles q.of_tiles

pub mode7-split-map : OneContent mode7-split-call.ended mode7-split.Post (λ κs s. s.1.1.0.now)
mode7-split-map κs a x y s t p q = one-content p.of_map q.of_map

pub run-result : OneResult run_call.ended run.Post
run-result κs a x y s t p q = p.answer ∙ sym q.answer

pub run-content : OneContent run_call.ended run.Post (λ κs s. s.1.0.now)
run-content κs a x y s t p q = p.lent ∙ sym q.lent
